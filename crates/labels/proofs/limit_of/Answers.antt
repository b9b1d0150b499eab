use mathlib.Core.Path.{refl}
use native.Mathlib.Nat.{mul-le-mul}
use native.Mathlib.Omega.{arith}
use Rattle.folder.specs.Fields.{field_limit, field4_limit}
use Rattle.labels.proofs.limit_of.Goals as goal

pub overflow_mul-result : goal.overflow_mul-result
overflow_mul-result c =
    omega (arith, mul-le-mul {n₁ = c.field.result} {m₁ = c.args.value} {n₂ = field_limit} {m₂ = field4_limit} (omega arith) (omega arith))

pub returns : goal.returns
returns c = rw (c.field.ensures.0, c.body.ensures) refl
