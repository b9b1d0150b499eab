-- A variable body whose ranges row 4 passes, and a label over it.
-- Assumes nothing.
use Rattle.std.specs.Prelude.{ℕ, suc, ◌<◌, ◌≤◌, List, leb, ℤ, ◌≤ℤ◌}
use Rattle.std.specs.Int.Signed.{mag}
use Rattle.folder.specs.Pick.{pick}
use Rattle.folder.specs.Contents.{count_of}
use Rattle.expressions.specs.Limits.{most_variables, farthest_bound, most_combinations}
use Rattle.expressions.specs.Ranges.{bound_in}
use Rattle.expressions.specs.Combinations.{Label}

pub record Ranged (y : List ℕ) : Type 0 where
  pub few : count_of 6 y ≤ most_variables
  pub ordered : (v : ℕ) → v < count_of 6 y → (bound_in y v).low ≤ℤ (bound_in y v).high
  pub low_small : (v : ℕ) → v < count_of 6 y → mag (bound_in y v).low ≤ farthest_bound
  pub high_small : (v : ℕ) → v < count_of 6 y → mag (bound_in y v).high ≤ farthest_bound

-- The label with the set t and the values v over the variables of y.
abbrev pub label_in : List ℕ → ℕ → List ℤ → Label
label_in y t v = record { variables = count_of 6 y; bound = bound_in y; tracked = t; values = v }

-- A count of combinations up to the limit; one more stands for all above.
abbrev pub capped : ℕ → ℕ
capped k = pick (leb k most_combinations) k (suc most_combinations)
