use native.Mathlib.Omega.{arith}
use Rattle.covers.proofs.Lowering.{lower-start, whole-still, lower-next}
use Rattle.covers.proofs.lower_hints.Goals as goal

pub put_field-requires : goal.put_field-requires
put_field-requires c = record { vars_le_most_variables = (c.requires.vars_nonzero.1, omega (arith, c.loop-i-test.true, c.requires.vars_nonzero.2), omega (arith, c.requires.vars_nonzero.0), c.lowered_hint-hint.ensures.1); whole = whole-still _ _ _ c.loop-i.invariant _ c.loop-i-test.true c.requires.nodes_in_bounds }

pub loop-i-preserved : goal.loop-i-preserved
loop-i-preserved c =
    lower-next _ _ _ c.loop-i.invariant c.requires.vars_nonzero.0 c.lowered_hint-hint.ensures.0 c.lowered_hint-hint.ensures.1 (whole-still _ _ _ c.loop-i.invariant _ c.loop-i-test.true c.requires.nodes_in_bounds) c.put_field.ensures

pub loop-i-init : goal.loop-i-init
loop-i-init c = lower-start _ _ _

pub shape_of-nb : goal.shape_of-nb
shape_of-nb c = c.loop-i.invariant.stays.long
