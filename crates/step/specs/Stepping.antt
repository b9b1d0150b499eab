-- What the code of a step stands on, over the bodies of the model folder.
-- Assumes nothing.
use Rattle.std.specs.Prelude.{ℕ, ◌+◌, ◌<◌, ◌≤◌, Bool, List, length, get_or, ℤ, pos}
use Rattle.std.specs.Int.Signed.{mag}
use Rattle.folder.specs.Fields.{field_limit}
use Rattle.folder.specs.Contents.{count_of, field, signed_field}
use Rattle.expressions.specs.Entries.{entries_of}
use Rattle.expressions.specs.Meaning.{State, value_of, number_in}
use Rattle.expressions.specs.Right.{IsNumber}
use Rattle.evaluate.specs.Formed.{Grounded}
use Rattle.model.specs.Limits.{most_variables, most_expressions, most_bound}
use Rattle.model.specs.Rules.{between}

-- Row 30: the value of variable v is in its range, by the variable body y.
abbrev pub fits_in : List ℕ → State → ℕ → Bool
fits_in y s v = between (signed_field 6 y v 0) (signed_field 6 y v 1) (value_of s v)

-- What record r of the branch body b gives variable v in the state s.
abbrev pub assigned_in : List ℕ → List ℕ → ℕ → ℕ → State → ℕ → ℤ
assigned_in x b size r s v = number_in (entries_of x) s (field size b r (1 + v))

-- The same where the row has what each number is.
abbrev pub value_in : List ℤ → List ℕ → ℕ → ℕ → ℕ → ℤ
value_in values b size r v = get_or values (field size b r (1 + v)) (pos 0)

-- What the row gives each of n variables fits 16 bits.
pub record Assigning (values : List ℤ) (b : List ℕ) (size r n : ℕ) : Type 0 where
  pub size_small : size ≤ field_limit
  pub record-small : r ≤ field_limit
  pub few : n ≤ most_variables
  pub fits : (v : ℕ) → v < n → mag (value_in values b size r v) ≤ mag most_bound

-- Each expression of branch record r is a number that can be read in s, and its value fits 16 bits.
pub record Stepping (x b : List ℕ) (size r : ℕ) (s : State) : Type 0 where
  pub size_small : size ≤ field_limit
  pub record-small : r ≤ field_limit
  pub few : length s ≤ most_variables
  pub entries : count_of 8 x ≤ most_expressions
  pub grounded : Grounded (entries_of x) s
  pub number : (v : ℕ) → v < length s → IsNumber (entries_of x) (field size b r (1 + v))
  pub fits : (v : ℕ) → v < length s → mag (assigned_in x b size r s v) ≤ mag most_bound
