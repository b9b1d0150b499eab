use native.Mathlib.Omega.{arith}
use Rattle.work.proofs.RootLaws.{begin-start, begin-next}
use Rattle.work.proofs.put_root.Goals as goal

pub put_field-requires : goal.put_field-requires
put_field-requires c = record { vars_le_most_variables = (c.requires.1, omega arith, omega (arith, c.requires.0, c.loop-f-test.true), c.root_field.ensures.1); whole = omega (arith, c.requires.2, c.loop-f.invariant.stays.long) }

pub loop-f-preserved : goal.loop-f-preserved
loop-f-preserved c =
    begin-next _ _ c.loop-f.invariant c.requires.0 c.loop-f-test.true c.requires.2 c.root_field.ensures.0 c.root_field.ensures.1 c.put_field.ensures

pub loop-f-init : goal.loop-f-init
loop-f-init c = begin-start _ _ _

pub shape_of-nb : goal.shape_of-nb
shape_of-nb c = c.loop-f.invariant.stays.long
