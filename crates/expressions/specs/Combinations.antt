-- Document 02, 2.4: a label over a model's variables, the states that it contains, and the combinations of the values that
-- untracked variables of a set can take.
-- Assumes nothing.
use Rattle.std.specs.Prelude.{ℕ, zero, suc, ◌+◌, ◌*◌, ◌/◌, ◌%◌, ◌<◌, ◌≡◌, true, List, length, get_or, ℤ, pos, nat_abs, ◌+ℤ◌, ◌-ℤ◌, ◌≤ℤ◌}
use Rattle.folder.specs.Pick.{pick}
use Rattle.folder.specs.Tab.{tab}
use Rattle.expressions.specs.Meaning.{State, value_of}
use Rattle.expressions.specs.Reading.{has_bit}
use Rattle.expressions.specs.Mentions.{is_free}
use Rattle.expressions.specs.declared.Range.{Range}

-- How many variables there are and their ranges; the set of the tracked ones and their values.
pub record Label : Type 0 where
  pub variables : ℕ
  pub bound : ℕ → Range
  pub tracked : ℕ
  pub values : List ℤ

-- The states that it contains: in range, with its values of the tracked variables.
pub record Holds (L : Label) (s : State) : Type 0 where
  pub long : length s ≡ L.variables
  pub low : (v : ℕ) → v < L.variables → (L.bound v).low ≤ℤ value_of s v
  pub high : (v : ℕ) → v < L.variables → value_of s v ≤ℤ (L.bound v).high
  pub agrees : (v : ℕ) → v < L.variables → has_bit L.tracked v ≡ true → value_of s v ≡ get_or L.values v (pos 0)

-- What rows 4, 15 and 18 give of a node's label: no range is crossed, no variable past the last is tracked, and tracked
-- values are in range.
pub record Proper (L : Label) : Type 0 where
  pub ordered : (v : ℕ) → v < L.variables → (L.bound v).low ≤ℤ (L.bound v).high
  pub there : (v : ℕ) → has_bit L.tracked v ≡ true → v < L.variables
  pub low : (v : ℕ) → has_bit L.tracked v ≡ true → (L.bound v).low ≤ℤ get_or L.values v (pos 0)
  pub high : (v : ℕ) → has_bit L.tracked v ≡ true → get_or L.values v (pos 0) ≤ℤ (L.bound v).high

unfoldable pub product_of : ℕ → (ℕ → ℕ) → ℕ
product_of zero f = 1
product_of (suc n) f = product_of n f * f n

-- How many values a range has.
unfoldable pub width_of : Range → ℕ
width_of r = nat_abs (r.high -ℤ r.low) + 1

-- How many values variable v takes, where m is the set of the mentioned variables and t that of the tracked ones: those of
-- its range where it is mentioned and not tracked.
unfoldable pub choices : (ℕ → Range) → ℕ → ℕ → ℕ → ℕ
choices bound t m v = pick (is_free m t v) (width_of (bound v)) 1

-- How many combinations n variables have.
unfoldable pub combinations : ℕ → (ℕ → Range) → ℕ → ℕ → ℕ
combinations n bound t m = product_of n (choices bound t m)

-- What is left of the number j once the variables below v have taken their digits; f has how many values each takes.
unfoldable pub left_of : (ℕ → ℕ) → ℕ → ℕ → ℕ
left_of f j zero = j
left_of f j (suc v) = left_of f j v / f v

module _ (L : Label) (m : ℕ) where
  -- Combination j: each variable takes its digit of j. It is one of the states of the label: what is neither tracked nor
  -- mentioned is at its low.
  abbrev pub digit : ℕ → ℕ → ℕ
  digit j v = left_of (choices L.bound L.tracked m) j v % choices L.bound L.tracked m v

  unfoldable pub value_in : ℕ → ℕ → ℤ
  value_in j v = pick (has_bit L.tracked v) (get_or L.values v (pos 0)) ((L.bound v).low +ℤ pos (digit j v))

  unfoldable pub combination : ℕ → State
  combination j = tab L.variables (value_in j)
