use borrow.Author.Tests.{not-true, not-false}
use native.Mathlib.Omega.{arith}
use Rattle.expand.proofs.Opening.{opened, shut, past-last}
use Rattle.expand.proofs.open_entry.Goals as goal

pub returns-then-not-known_at : goal.returns-then-not-known_at
returns-then-not-known_at c = opened _ _ _ c.variable_count-vars.ensures.0 c.if-v-vars.true c.body.ensures c.field-e.ensures.0 c.known_at.ensures (not-true _ c.if-not-known_at.true-raw)

pub returns-else-not-known_at : goal.returns-else-not-known_at
returns-else-not-known_at c = shut _ _ _ c.variable_count-vars.ensures.0 c.if-v-vars.true c.body.ensures c.field-e.ensures.0 c.known_at.ensures (not-false _ c.if-not-known_at.false-raw)

pub returns-else-v-vars : goal.returns-else-v-vars
returns-else-v-vars c = past-last _ _ _ c.variable_count-vars.ensures.0 c.if-v-vars.false

pub overflow_mul-vars : goal.overflow_mul-vars
overflow_mul-vars c = omega (arith, c.variable_count-vars.ensures.1)

pub overflow_add-vars : goal.overflow_add-vars
overflow_add-vars c = omega (arith, c.variable_count-vars.ensures.1)
