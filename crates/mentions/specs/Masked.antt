-- The row of what each entry mentions, and what filling it stands on.
-- Assumes nothing.
use Rattle.std.specs.Prelude.{ℕ, ◌<◌, ◌≤◌, ◌≡◌, List, get_or}
use Rattle.expressions.specs.Limits.{most_variables}
use Rattle.expressions.specs.Entries.{Entries}
use Rattle.expressions.specs.Mentions.{mentions}
use Rattle.expressions.specs.Right.{EntryRight}

-- Row 5 holds, over so few variables that a set of them fits 16 bits.
pub record Written (x : Entries) : Type 0 where
  pub variables : ℕ
  pub few : variables ≤ most_variables
  pub right : (e : ℕ) → e < x.count → EntryRight x variables e

-- The row has what each entry below n mentions.
pub record Masked (x : Entries) (n : ℕ) (masks : List ℕ) : Type 0 where
  pub is : (e : ℕ) → e < n → get_or masks e 0 ≡ mentions x e
