use native.Mathlib.Omega.{arith}
use Rattle.finish.proofs.EdgeLaws.{walk_start, bytes-room, births-room, count_room, walk-next, walk-over}
use Rattle.finish.proofs.put_edges.Goals as goal

pub loop-c-init : goal.loop-c-init
loop-c-init c = walk_start _ _ _ _ _

pub overflow_add-at : goal.overflow_add-at
overflow_add-at c = omega (arith, bytes-room c.loop-c.invariant c.is_on-on.ensures c.field-branches.ensures.0 _ c.loop-c-test.true, c.requires.commands_in_bounds)

pub overflow_add-child : goal.overflow_add-child
overflow_add-child c = omega (arith, births-room c.loop-c.invariant c.is_on-on.ensures c.field-branches.ensures.0 _ c.loop-c-test.true, c.requires.commands_le_most_commands.1)

pub put_edge-requires : goal.put_edge-requires
put_edge-requires c = (
  omega (arith, bytes-room c.loop-c.invariant c.is_on-on.ensures c.field-branches.ensures.0 _ c.loop-c-test.true, c.requires.commands_in_bounds, c.loop-c.invariant.laid.stays.long),
  omega (arith, c.loop-c-test.true, c.requires.commands_le_most_commands.0),
  omega (arith, births-room c.loop-c.invariant c.is_on-on.ensures c.field-branches.ensures.0 _ c.loop-c-test.true, c.requires.commands_le_most_commands.1),
)

pub overflow_add-births : goal.overflow_add-births
overflow_add-births c = omega (arith, c.loop-c.invariant.costs.few, c.if_on-births.ensures.1, c.field-branches.ensures.1, c.requires.commands_le_most_commands.0, c.loop-c-test.true)

pub overflow_add-bytes : goal.overflow_add-bytes
overflow_add-bytes c = omega (arith, c.loop-c.invariant.costs.short, c.if_on-bytes.ensures.1, c.field-branches.ensures.1, c.requires.commands_le_most_commands.0, c.loop-c-test.true)

pub overflow_add-count : goal.overflow_add-count
overflow_add-count c = omega (arith, count_room c.loop-c.invariant c.is_on-on.ensures c.field-branches.ensures.0, c.if_on-count.ensures.1, c.requires.commands_le_most_commands.0, c.loop-c-test.true)

pub loop-c-preserved : goal.loop-c-preserved
loop-c-preserved c =
    walk-next c.loop-c.invariant c.is_on-on.ensures c.field-branches.ensures.0 c.field-branches.ensures.1 c.put_edge.ensures c.if_on-births.ensures c.if_on-bytes.ensures c.if_on-count.ensures.0

pub shape_of-nb : goal.shape_of-nb
shape_of-nb c = c.loop-c.invariant.laid.stays.long

pub returns : goal.returns
returns c = walk-over c.loop-c.invariant (omega arith)
