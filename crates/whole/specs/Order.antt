-- The smaller and the larger of two whole numbers, and whether two are equal.
-- Assumes nothing.
use Rattle.std.specs.Prelude.{Bool, ◌&&◌, ℤ}
use Rattle.std.specs.Int.Signed.{le_z}
use Rattle.folder.specs.Pick.{pick}

unfoldable pub min_z : ℤ → ℤ → ℤ
min_z a b = pick (le_z a b) a b

unfoldable pub max_z : ℤ → ℤ → ℤ
max_z a b = pick (le_z a b) b a

-- Equal: neither is greater.
unfoldable pub eq_z : ℤ → ℤ → Bool
eq_z a b = le_z a b && le_z b a
