-- Document 02, 2.2: the variables that an expression mentions; and readings that, where they are unknown, carry the lowest
-- of those that the label does not track.
-- Assumes nothing.
use Rattle.std.specs.Prelude.{ℕ, ◌^◌, ◌<◌, ◌≡◌, Bool, true, false, not, ◌&&◌, List, ltb, ℤ, Err, Ok, ok_or}
use Rattle.std.specs.Int.Bits.{bit_or}
use Rattle.std.specs.Result.{result_ok}
use Rattle.folder.specs.Pick.{pick}
use Rattle.folder.specs.Scan.{first_bad}
use Rattle.expressions.specs.Limits.{no_variable}
use Rattle.expressions.specs.Entries.{Entries}
use Rattle.expressions.specs.Levels.{Interpretation, number, truth}
use Rattle.expressions.specs.Reading.{has_bit, look_in, read_number, read_truth}
use Rattle.expressions.specs.ThreeWay.{Number, Truth, NumberReading, TruthReading}

-- Sets of variables have bit i for variable i, as a node's tracked set. What is in either of two.
unfoldable pub union : ℕ → ℕ → ℕ
union a b = bit_or a b

-- The variables mentioned, of known parts too: an interpretation.
abbrev pub mentioning : Interpretation ℕ ℕ
mentioning = record {
  constant = λ z. 0;
  variable = λ i. 2 ^ i;
  binary = λ k a b. union a b;
  choose = λ t a b. union t (union a b);
  no_number = 0;
  compare = λ k a b. union a b;
  negate = λ t. t;
  join = λ k t u. union t u;
  always = 0;
  no_truth = 0;
}

-- What entry e mentions: it is of one sort only, and the other adds nothing.
unfoldable pub mentions : Entries → ℕ → ℕ
mentions x e = union (number mentioning x e) (truth mentioning x e)

-- Variable v is in the set m of those mentioned, and not in the set t of those tracked.
abbrev pub is_free : ℕ → ℕ → ℕ → Bool
is_free m t v = has_bit m v && not (has_bit t v)

-- The lowest such variable of n.
unfoldable pub missing : ℕ → ℕ → ℕ → ℕ
missing n m t = let v = first_bad (λ i. not (is_free m t i)) n in pick (ltb v n) v no_variable

-- In words: r is that variable.
pub record Lowest (n m t r : ℕ) : Type 0 where
  pub there : r < n
  pub mentioned : has_bit m r ≡ true
  pub untracked : has_bit t r ≡ false
  pub least : (v : ℕ) → v < r → is_free m t v ≡ false

-- A three-way reading and the variable that it lacks if it is unknown; the reading alone; and the variable alone.
abbrev pub carry_n : ℕ → Number → NumberReading
carry_n v a = ok_or a v

abbrev pub carry_t : ℕ → Truth → TruthReading
carry_t v a = ok_or a v

abbrev pub plain_n : NumberReading → Number
plain_n r = result_ok r

abbrev pub plain_t : TruthReading → Truth
plain_t r = result_ok r

abbrev pub lacked : TruthReading → ℕ
lacked (Ok b) = no_variable
lacked (Err v) = v

-- How entry e reads in the label with the set t and the values v, of n variables.
module _ (x : Entries) (n t : ℕ) (v : List ℤ) where
  abbrev pub number_reading : ℕ → NumberReading
  number_reading e = carry_n (missing n (mentions x e) t) (read_number x (look_in t v) e)

  abbrev pub truth_reading : ℕ → TruthReading
  truth_reading e = carry_t (missing n (mentions x e) t) (read_truth x (look_in t v) e)
