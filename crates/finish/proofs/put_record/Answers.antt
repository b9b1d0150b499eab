use native.Mathlib.Omega.{arith}
use Rattle.finish.proofs.FinalLaws.{going_start, going_next}
use Rattle.finish.proofs.put_record.Goals as goal

pub put_field-requires : goal.put_field-requires
put_field-requires c = record { vars_le_most_variables = (c.requires.vars_le_most_variables.0, c.requires.vars_le_most_variables.1, c.loop-f-test.true, c.final_field-u.ensures.1); whole = omega (arith, c.requires.whole, c.loop-f.invariant.laid.stays.long) }

pub loop-f-preserved : goal.loop-f-preserved
loop-f-preserved c = going_next c.loop-f.invariant c.loop-f-test.true c.requires.whole c.final_field-u.ensures.0 c.final_field-u.ensures.1 c.put_field.ensures

pub shape_of-nb : goal.shape_of-nb
shape_of-nb c = c.loop-f.invariant.laid.stays.long

pub loop-f-init : goal.loop-f-init
loop-f-init c = going_start _ _ _ _
