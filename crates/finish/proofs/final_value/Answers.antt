use native.Mathlib.Omega.{arith}
use Rattle.finish.proofs.FinalLaws.{value-concrete, value-label}
use Rattle.finish.proofs.final_value.Goals as goal

pub returns-then-v-vars : goal.returns-then-v-vars
returns-then-v-vars c = (value-concrete _ _ _ c.node_size-size.ensures.0 c.if-v-vars.true c.field.ensures.0, c.field.ensures.1)

pub returns : goal.returns
returns c = (value-label _ _ _ c.node_size-size.ensures.0 c.if-v-vars.false c.field-set.ensures.0 c.field-u.ensures.0 c.has_bit.ensures c.if_on.ensures.0, omega (arith, c.if_on.ensures.1, c.field-u.ensures.1))
