-- The readings of all entries in one label, as two rows: which are known, and what they are.
-- Assumes nothing.
use Rattle.std.specs.Prelude.{ℕ, ◌<◌, ◌≡◌, true, false, List, eqb, get_or, ℤ, pos, None, Some}
use Rattle.folder.specs.Pick.{pick}
use Rattle.whole.specs.Order.{eq_z}
use Rattle.expressions.specs.Entries.{Entries, is_number}
use Rattle.expressions.specs.Meaning.{State, number_in}
use Rattle.expressions.specs.Reading.{known_truth, read_number, read_truth}
use Rattle.expressions.specs.Right.{IsNumber}
use Rattle.expressions.specs.ThreeWay.{Number, Truth}

-- A truth as a number: 1 for true, 0 for false.
abbrev pub as_number : Truth → Number
as_number (Some true) = Some (pos 1)
as_number (Some false) = Some (pos 0)
as_number None = None

-- What the rows have for a reading: 1 and the number where it is known, else 0 and 0.
abbrev pub flag_of : Number → ℕ
flag_of (Some z) = 1
flag_of None = 0

abbrev pub content_of : Number → ℤ
content_of (Some z) = z
content_of None = pos 0

-- The number, and the truth, that they stand for.
abbrev pub number_from : ℕ → ℤ → Number
number_from k z = pick (eqb k 1) (Some z) None

abbrev pub truth_from : ℕ → ℤ → Truth
truth_from k z = pick (eqb k 1) (known_truth (eq_z z (pos 1))) None

module _ (x : Entries) (look : ℕ → Number) where
  -- How entry e reads, by its sort.
  unfoldable pub entry_reading : ℕ → Number
  entry_reading e = pick (is_number x e) (read_number x look e) (as_number (read_truth x look e))

  abbrev pub flag_at : ℕ → ℕ
  flag_at e = flag_of (entry_reading e)

  abbrev pub content_at : ℕ → ℤ
  content_at e = content_of (entry_reading e)

  -- The rows have the readings of the entries below n.
  pub record Settled (n : ℕ) (known : List ℕ) (values : List ℤ) : Type 0 where
    pub flags : (e : ℕ) → e < n → get_or known e 0 ≡ flag_at e
    pub contents : (e : ℕ) → e < n → get_or values e (pos 0) ≡ content_at e

-- The row has what each number is in the state s.
pub record StateRow (x : Entries) (s : State) (values : List ℤ) : Type 0 where
  pub numbers : (e : ℕ) → IsNumber x e → get_or values e (pos 0) ≡ number_in x s e
