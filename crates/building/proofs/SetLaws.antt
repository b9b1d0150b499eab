-- Sets of a model's variables, as numbers below 2 to the power of their count.
-- Assumes nothing.
use Prim.Native.Nat.{ℕ, ◌^◌, ◌<◌}
use mathlib.Core.Path.{◌≡◌}
use mathlib.Core.Bool.{true}
use native.Mathlib.Nat.{div-eq_of_lt}
use lib.Pow.{pow_pos}
use lib.Bits.{or_lt}
use Rattle.expressions.specs.Reading.{has_bit}
use Rattle.expressions.specs.Mentions.{union}
use Rattle.expressions.proofs.Bits.{bit_below}
use Rattle.model.specs.Model.{Model}
use Rattle.building.specs.Building.{start_set}

pub union-small : (w a b : ℕ) → a < 2 ^ w → b < 2 ^ w → union a b < 2 ^ w
unfolding union
union-small w a b p q = or_lt w a b p q

pub bit-there : (t w : ℕ) → t < 2 ^ w → (v : ℕ) → has_bit t v ≡ true → v < w
bit-there t w s v h = bit_below t w v (div-eq_of_lt s) h

pub start_small : (M : Model) → start_set M < 2 ^ M.variables
unfolding start_set
start_small M = pow_pos M.variables
