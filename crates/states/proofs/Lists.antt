-- A list in which parts stand before what they are parts of: entries are worked out along it.
-- Assumes nothing.
use Prim.Native.Nat.{ℕ, ◌≤◌, ◌<◌}
use mathlib.Core.Path.{◌≡◌}
use mathlib.Core.List.{List}
use lib.ListN.{get_or, length}
use lib.IntN.{ℤ}
use Rattle.expressions.specs.Entries.{Entries}
use Rattle.expressions.specs.Meaning.{State}
use Rattle.states.specs.Stated.{HasEntry}

module _ (x : Entries) (s : State) (row : List ℤ) (list : List ℕ) where
  -- The first i of the list stand in the row, which is so long.
  pub record ListedTo (size i : ℕ) : Type 0 where
    pub long : length row ≡ size
    pub within : i ≤ length list
    pub is : (j : ℕ) → j < i → HasEntry x s row (get_or list j 0)
