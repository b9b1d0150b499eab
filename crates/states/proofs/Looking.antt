-- The loop over the combinations.
-- Assumes nothing.
use Prim.Native.Nat.{ℕ, ◌≤◌, ◌<◌}
use mathlib.Core.Path.{◌≡◌, refl}
use mathlib.Core.List.{List}
use native.Mathlib.Decide.{dec_lt}
use native.Mathlib.Omega.{arith}
use lib.ListN.{get_or, length, get_or-eq_default}
use lib.IntN.{ℤ, pos}
use Rattle.folder.specs.Contents.{count_of}
use Rattle.expressions.specs.Entries.{Entries}
use Rattle.expressions.specs.Meaning.{State, value_of}
use Rattle.expressions.specs.Ranges.{bound_in}
use Rattle.expressions.specs.Combinations.{Label, Holds, combination}
use Rattle.expressions.proofs.Combinations.{combination-holds}
use Rattle.expressions.proofs.Interval.{In, in_one, bound-past}
use Rattle.evaluate.specs.Formed.{Grounded}
use Rattle.choices.specs.Ranged.{label_in}
use Rattle.states.specs.Stated.{entry_in}
use Rattle.states.specs.Needed.{Up}
use Rattle.states.specs.Read.{Readable}

-- Past the last value a state is 0.
past : (s : State) (i : ℕ) → length s ≤ i → value_of s i ≡ pos 0
past s i l = get_or-eq_default s (pos 0) {n = i} l

-- Entries that can be read in all states of the label can be read in each.
module _ (x : Entries) (y : List ℕ) (t : ℕ) (v : List ℤ) (r : Readable x y t v) where
  abbrev L : Label
  L = label_in y t v

  module _ (s : State) (h : Holds L s) where
    inside : (i : ℕ) → Dec (i < count_of 6 y) → In (bound_in y i) (value_of s i)
    inside i (yes l) = record { low = h.low i l; high = h.high i l }
    inside i (no g) = rw (← bound-past y i refl (omega arith), past s i (omega (arith, h.long))) (in_one (pos 0))

    pub grounded : Grounded x s
    grounded = record {
      variables = count_of 6 y;
      few = r.ranged.few;
      bound = bound_in y;
      formed = r.formed;
      low = λ i. (inside i (dec_lt i (count_of 6 y))).low;
      high = λ i. (inside i (dec_lt i (count_of 6 y))).high;
    }

  pub combination-grounded : (m j : ℕ) {row : List ℤ} → row ≡ combination L m j → Grounded x row
  combination-grounded m j e = rw e (grounded (combination L m j) (combination-holds L m r.proper j))

module _ (x : Entries) (L : Label) (m e : ℕ) (list : List ℕ) (state : List ℤ) (before : List ℕ) where
  -- Of the list's entries those still flagged agree with the state's row in the combinations below j; the row has combination j.
  pub record Looked (row : List ℤ) (flags : List ℕ) (j : ℕ) : Type 0 where
    pub long : length flags ≡ length before
    pub at : row ≡ combination L m j
    pub fewer : (k : ℕ) → Up flags k → Up before k
    pub agree : (i : ℕ) → i < length list → Up flags (get_or list i 0) → (k : ℕ) → k < j → entry_in x (combination L m k) (get_or list i 0) ≡ get_or state (get_or list i 0) (pos 0)
    pub asked : Up flags e
