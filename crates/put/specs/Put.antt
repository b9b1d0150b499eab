-- Fields written: what a slice holds then.
-- Assumes nothing.
use Rattle.std.specs.Prelude.{ℕ, ◌+◌, ◌-◌, ◌/◌, ◌%◌, ◌<◌, ◌≤◌, ◌≡◌, List, length, get_or, set, ℤ, pos, negsuc, ◌≤ℤ◌}
use Rattle.folder.specs.Fields.{field_limit}
use Rattle.expressions.specs.Limits.{farthest_bound}

-- The 2-byte field at k becomes u; and the 4-byte field.
unfoldable pub put2 : List ℕ → ℕ → ℕ → List ℕ
put2 l k u = set (set l k (u % 256)) (k + 1) (u / 256)

unfoldable pub put4 : List ℕ → ℕ → ℕ → List ℕ
put4 l k u = put2 (put2 l k (u % field_limit)) (k + 2) (u / field_limit)

-- The 2-byte field that reads as z.
abbrev pub unsigned : ℤ → ℕ
unsigned (pos n) = n
unsigned (negsuc n) = field_limit - 1 - n

-- A value within the bounds that a variable may have: it fits a field.
pub record FitsField (z : ℤ) : Type 0 where
  pub low : negsuc (farthest_bound - 1) ≤ℤ z
  pub high : z ≤ℤ pos farthest_bound

-- The elements outside `from` to `to` stay.
pub record Stays (from to : ℕ) (old new : List ℕ) : Type 0 where
  pub long : length new ≡ length old
  pub below : (j : ℕ) → j < from → get_or new j 0 ≡ get_or old j 0
  pub past : (j : ℕ) → to ≤ j → get_or new j 0 ≡ get_or old j 0

-- Those from `from` to `to` are what f makes of them, by their places.
pub record Changed (from to : ℕ) (f : ℕ → ℕ → ℕ) (old new : List ℕ) : Type 0 where
  pub stays : Stays from to old new
  pub is : (k : ℕ) → from ≤ k → k < to → get_or new k 0 ≡ f k (get_or old k 0)
