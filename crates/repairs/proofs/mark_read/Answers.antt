use native.Mathlib.Omega.{arith}
use Rattle.covers.proofs.CoverLaws.{field-by}
use Rattle.repairs.proofs.Marking.{mark-start, whole-still, mark-next, mark-skip, mark-over}
use Rattle.repairs.proofs.mark_read.Goals as goal

pub next_unread-x-requires : goal.next_unread-x-requires
next_unread-x-requires c = (c.requires.vars_le_most_variables.0, c.requires.vars_le_most_variables.1, omega (arith, c.requires.vars_le_most_variables.2))

pub loop-x-init : goal.loop-x-init
loop-x-init c =
    (c.next_unread-x.ensures.lower_bound.0, c.next_unread-x.ensures.lower_bound.1, mark-skip _ _ (mark-start _ _ _) c.next_unread-x.ensures.lower_bound.0 (omega arith) c.next_unread-x.ensures.by_index)

pub put_field-requires : goal.put_field-requires
put_field-requires c = record { vars_le_most_variables = (c.requires.vars_le_most_variables.0, omega (arith, c.loop-x-test.true, c.requires.vars_le_most_variables.2), omega arith, c.field-set.ensures.1); whole = whole-still _ _ _ c.loop-x.invariant.2 _ c.loop-x-test.true c.requires.end_in_bounds }

pub next_unread-x-requires-in-loop-x : goal.next_unread-x-requires-in-loop-x
next_unread-x-requires-in-loop-x c = (c.requires.vars_le_most_variables.0, omega (arith, c.loop-x-test.true), omega (arith, c.requires.vars_le_most_variables.2))

pub loop-x-smaller : goal.loop-x-smaller
loop-x-smaller c = omega (arith, c.next_unread-x-in-loop-x.ensures.lower_bound.0, c.loop-x-test.true, c.next_unread-x-in-loop-x.ensures.lower_bound.1)

pub loop-x-preserved : goal.loop-x-preserved
loop-x-preserved c =
    (omega (arith, c.loop-x.invariant.0, c.next_unread-x-in-loop-x.ensures.lower_bound.0), c.next_unread-x-in-loop-x.ensures.lower_bound.1, mark-skip _ _ (mark-next _ _ _ c.loop-x.invariant.2 c.loop-x.invariant.0 (field-by _ _ _ _ c.node_size-size.ensures.0 c.field-set.ensures.0) c.field-set.ensures.1 (whole-still _ _ _ c.loop-x.invariant.2 _ c.loop-x-test.true c.requires.end_in_bounds) c.put_field.ensures) c.next_unread-x-in-loop-x.ensures.lower_bound.0 (omega (arith, c.loop-x.invariant.0)) c.next_unread-x-in-loop-x.ensures.by_index)

pub shape_of-nb : goal.shape_of-nb
shape_of-nb c = c.loop-x.invariant.2.stays.long

pub returns : goal.returns
returns c = mark-over _ _ c.loop-x.invariant.2 c.loop-x.invariant.1 c.loop-x-test.false
