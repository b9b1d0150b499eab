use mathlib.Core.Path.{◌∙◌}
use native.Mathlib.Omega.{arith}
use Rattle.expand.specs.Tests.{holds_at}
use Rattle.expand.proofs.Sizes.{cursor-small}
use Rattle.expand.proofs.Readings.{at-guard}
use Rattle.expand.proofs.EnabledLaws.{walk_start, walk-skip, walk-take, walk-fails, walk-over, same_edges_lem}
use Rattle.expand.proofs.edges_enabled.Goals as goal
use Rattle.expand.proofs.edges_enabled.Goals.{then-holds_at+then-names_at, else-holds_at}

pub loop-c-init : goal.loop-c-init
loop-c-init c = walk_start _ _ _ _ _ _ c.requires.at_value

pub names_at-requires : goal.names_at-requires
names_at-requires c = omega (arith, cursor-small c.requires.node_of c.loop-c.k c.node_field-edges.ensures.0 c.loop-c.invariant.few c.loop-c.invariant.stands_at)

pub edge_size-p-requires : goal.edge_size-p-requires
edge_size-p-requires c = omega (arith, cursor-small c.requires.node_of c.loop-c.k c.node_field-edges.ensures.0 c.loop-c.invariant.few c.loop-c.invariant.stands_at)

pub overflow_add-p : goal.overflow_add-p
overflow_add-p c = omega (arith, cursor-small c.requires.node_of c.loop-c.k c.node_field-edges.ensures.0 c.loop-c.invariant.few c.loop-c.invariant.stands_at, c.edge_size-p.ensures.1)

pub returns-else-names_at : goal.returns-else-names_at
returns-else-names_at c =
    walk-fails _ _ _ _ c.loop-c.invariant c.loop-c-test.true
    (at-guard (holds_at _) _ _ c.body-cs.ensures c.field.ensures.0 c.holds_at.ensures)
    c.body-eb.ensures c.names_at.ensures c.if-holds_at.true c.if-names_at.false
    ∙ same_edges_lem c.requires.guards_settled c.node_field-edges.ensures.0 c.command_count-commands.ensures.0

pub loop-c-preserved : goal.loop-c-preserved
loop-c-preserved c =
    let h = at-guard (holds_at _) _ _ c.body-cs.ensures c.field.ensures.0 c.holds_at.ensures in
    elim c.if-holds_at.branch [
      | then-holds_at+then-names_at w ↦ walk-take _ _ _ _ c.loop-c.invariant c.loop-c-test.true h c.body-eb.ensures w.names_at.ensures w.if-holds_at.true w.if-names_at.true (w.edge_size-p.ensures.0 _ c.body-cs.ensures) w.k-is w.p-is
      | else-holds_at w ↦ walk-skip _ _ _ _ c.loop-c.invariant c.loop-c-test.true h w.if-holds_at.false w.k-is w.p-is
    ]

pub returns : goal.returns
returns c =
    walk-over _ _ _ _ c.loop-c.invariant (omega arith)
    ∙ same_edges_lem c.requires.guards_settled c.node_field-edges.ensures.0 c.command_count-commands.ensures.0
