-- Document 02, 2.4: the reading of an entry in a label. Where the untracked variables that it mentions have at most 4,096
-- combinations, it is known exactly when all combinations agree on it; above that, document 01's reading remains.
-- Assumes nothing.
use Rattle.std.specs.Prelude.{ℕ, Bool, not, leb, ℤ, None, Some}
use Rattle.folder.specs.Pick.{pick}
use Rattle.folder.specs.Scan.{all}
use Rattle.whole.specs.Order.{eq_z}
use Rattle.expressions.specs.Limits.{most_combinations}
use Rattle.expressions.specs.Entries.{Entries}
use Rattle.expressions.specs.Meaning.{number_in, truth_in}
use Rattle.expressions.specs.Reading.{known_truth, look_in, read_number, read_truth}
use Rattle.expressions.specs.Mentions.{mentions, missing, carry_n, carry_t}
use Rattle.expressions.specs.Combinations.{Label, combinations, combination}
use Rattle.expressions.specs.ThreeWay.{Number, Truth, NumberReading, TruthReading}

abbrev pub same_truth : Bool → Bool → Bool
same_truth a b = pick a b (not b)

module _ (x : Entries) (L : Label) (e : ℕ) where
  -- The combinations of entry e.
  abbrev pub ways : ℕ
  ways = combinations L.variables L.bound L.tracked (mentions x e)

  -- What it is in combination j.
  abbrev pub number_by : ℕ → ℤ
  number_by j = number_in x (combination L (mentions x e) j) e

  abbrev pub truth_by : ℕ → Bool
  truth_by j = truth_in x (combination L (mentions x e) j) e

  -- Known where all combinations agree, that is each with the first.
  unfoldable pub number_by_all : Number
  number_by_all = pick (all (λ j. eq_z (number_by j) (number_by 0)) ways) (Some (number_by 0)) None

  unfoldable pub truth_by_all : Truth
  truth_by_all = pick (all (λ j. same_truth (truth_by j) (truth_by 0)) ways) (known_truth (truth_by 0)) None

  -- Document 01's reading.
  abbrev pub number_three : Number
  number_three = read_number x (look_in L.tracked L.values) e

  abbrev pub truth_three : Truth
  truth_three = read_truth x (look_in L.tracked L.values) e

  -- How entry e reads in the label, as a number and as a truth.
  unfoldable pub number_read : Number
  number_read = pick (leb ways most_combinations) number_by_all number_three

  unfoldable pub truth_read : Truth
  truth_read = pick (leb ways most_combinations) truth_by_all truth_three

  -- And where it reads unknown, with the variable that it lacks (2.2).
  abbrev pub lacked_by : ℕ
  lacked_by = missing L.variables (mentions x e) L.tracked

  abbrev pub number_told : NumberReading
  number_told = carry_n lacked_by number_read

  abbrev pub truth_told : TruthReading
  truth_told = carry_t lacked_by truth_read
