-- Document 01, "Models": the operations on two numbers, 2 to 6 and 8 to 10.
-- Assumes nothing.
use Rattle.std.specs.Prelude.{Bool, ℤ, ◌+ℤ◌, ◌-ℤ◌, ◌*ℤ◌}
use Rattle.std.specs.Int.Signed.{le_z, lt_z}
use Rattle.whole.specs.Order.{min_z, max_z, eq_z}
use Rattle.expressions.specs.declared.Arith.{Arith}
use Rattle.expressions.specs.declared.Arith.TheVariants.{Add, Subtract, Multiply, Smaller, Larger}
use Rattle.expressions.specs.declared.Relation.{Relation}
use Rattle.expressions.specs.declared.Relation.TheVariants.{Equal, Less, AtMost}

abbrev pub arith_z : Arith → ℤ → ℤ → ℤ
arith_z Add a b = a +ℤ b
arith_z Subtract a b = a -ℤ b
arith_z Multiply a b = a *ℤ b
arith_z Smaller a b = min_z a b
arith_z Larger a b = max_z a b

abbrev pub relates : Relation → ℤ → ℤ → Bool
relates Equal a b = eq_z a b
relates Less a b = lt_z a b
relates AtMost a b = le_z a b
