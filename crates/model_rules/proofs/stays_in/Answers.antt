use native.Mathlib.Omega.{arith}
use Rattle.model_rules.proofs.AssignLaws.{number-there, stays}
use Rattle.model_rules.proofs.stays_in.Goals as goal

pub returns-then-is_number : goal.returns-then-is_number
returns-then-is_number c = stays _ _ _ _ c.is_number.ensures c.if-is_number.true c.requires.held c.bound_at.ensures c.is_inside.ensures

pub bounds-row-e : goal.bounds-row-e
bounds-row-e c = omega (arith, number-there _ _ c.is_number.ensures c.if-is_number.true)
