-- What the evaluators stand on: no sum or product of two numbers that read known leaves 64 bits.
-- Assumes nothing.
use Rattle.std.specs.Prelude.{ℕ, ◌≤◌, ◌≡◌, ℤ, Some}
use Rattle.std.specs.Int.Signed.{mag}
use Rattle.whole.specs.Limits.{farthest}
use Rattle.expressions.specs.Entries.{Entries}
use Rattle.expressions.specs.Levels.{number_at}
use Rattle.expressions.specs.Reading.{reading}
use Rattle.expressions.specs.ThreeWay.{Number}

-- Within a million of 0, where it is known.
abbrev pub Small : Number → Type 0
Small a = (z : ℤ) → a ≡ Some z → mag z ≤ farthest

-- So reads every entry, at every level.
unfoldable pub Bounded : Entries → (ℕ → Number) → Type 0
Bounded x look = (n e : ℕ) → Small (number_at (reading look) x n e)
