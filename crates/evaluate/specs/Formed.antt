-- What a model that passed its checks gives to those who read its expressions.
-- Assumes nothing.
use Rattle.std.specs.Prelude.{ℕ, ◌<◌, ◌≤◌, ◌≡◌, true, List, get_or, ℤ, pos, ◌≤ℤ◌}
use Rattle.expressions.specs.Limits.{most_variables}
use Rattle.expressions.specs.Entries.{Entries}
use Rattle.expressions.specs.Meaning.{State, value_of}
use Rattle.expressions.specs.Reading.{has_bit}
use Rattle.expressions.specs.Right.{EntryRight, RangeRight}
use Rattle.expressions.specs.declared.Range.{Range}

-- Rows 5 and 6 hold.
pub record Formed (x : Entries) (variables : ℕ) (bound : ℕ → Range) : Type 0 where
  pub right : (e : ℕ) → e < x.count → EntryRight x variables e
  pub ranges : (e : ℕ) → e < x.count → RangeRight x bound e

-- Each tracked value lies in its variable's range.
pub record Values (t : ℕ) (v : List ℤ) (bound : ℕ → Range) : Type 0 where
  pub low : (i : ℕ) → has_bit t i ≡ true → (bound i).low ≤ℤ get_or v i (pos 0)
  pub high : (i : ℕ) → has_bit t i ≡ true → get_or v i (pos 0) ≤ℤ (bound i).high

-- The entries can be read in the label with the set t and the values v.
pub record Ready (x : Entries) (t : ℕ) (v : List ℤ) : Type 0 where
  pub variables : ℕ
  pub bound : ℕ → Range
  pub formed : Formed x variables bound
  pub values : Values t v bound

-- The entries can be read in the state s.
pub record Grounded (x : Entries) (s : State) : Type 0 where
  pub variables : ℕ
  pub few : variables ≤ most_variables
  pub bound : ℕ → Range
  pub formed : Formed x variables bound
  pub low : (i : ℕ) → (bound i).low ≤ℤ value_of s i
  pub high : (i : ℕ) → value_of s i ≤ℤ (bound i).high
