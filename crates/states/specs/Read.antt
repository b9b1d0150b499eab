-- How entries read in a label by document 02, 2.4, whatever their sort, and a row of flags for those that read known.
-- Assumes nothing.
use Rattle.std.specs.Prelude.{ℕ, ◌<◌, ◌≤◌, ◌≡◌, Bool, true, false, List, get_or, length, ℤ, pos, None, Some}
use Rattle.folder.specs.Pick.{pick}
use Rattle.folder.specs.Contents.{count_of}
use Rattle.expressions.specs.Limits.{most_expressions}
use Rattle.expressions.specs.Entries.{Entries, is_number}
use Rattle.expressions.specs.Meaning.{State}
use Rattle.expressions.specs.Ranges.{bound_in}
use Rattle.expressions.specs.Reading.{look_in}
use Rattle.expressions.specs.Combinations.{Label, Holds, Proper, combination}
use Rattle.expressions.specs.States.{number_read, truth_read}
use Rattle.expressions.specs.ThreeWay.{Number}
use Rattle.mentions.specs.Masked.{Masked}
use Rattle.evaluate.specs.Formed.{Formed}
use Rattle.evaluate.specs.Settled.{as_number, entry_reading}
use Rattle.choices.specs.Ranged.{Ranged, label_in}
use Rattle.states.specs.Stated.{entry_in, StateRow}
use Rattle.states.specs.Needed.{is_up, Up}

abbrev pub is_known_number : Number → Bool
is_known_number (Some z) = true
is_known_number None = false

module _ (x : Entries) (L : Label) where
  -- How entry e reads, by its sort; and whether it reads known.
  unfoldable pub entry_read : ℕ → Number
  entry_read e = pick (is_number x e) (number_read x L e) (as_number (truth_read x L e))

  abbrev pub reads_known : ℕ → Bool
  reads_known e = is_known_number (entry_read e)

  -- What is flagged reads known; what is not is unknown three ways, so that it may be looked at yet.
  pub record Flagged (known : List ℕ) : Type 0 where
    pub sound : (e : ℕ) → e < x.count → Up known e → reads_known e ≡ true
    pub unknown : (e : ℕ) → e < x.count → (Up known e → ⊥) → entry_reading x (look_in L.tracked L.values) e ≡ None

  -- The row has what the entries are in one of the label's states.
  pub record Concrete (state : List ℤ) : Type 0 where
    pub own : State
    pub holds : Holds L own
    pub row : StateRow x own state

-- The entries can be read in all states of the label.
pub record Readable (x : Entries) (y : List ℕ) (t : ℕ) (v : List ℤ) : Type 0 where
  pub formed : Formed x (count_of 6 y) (bound_in y)
  pub ranged : Ranged y
  pub proper : Proper (label_in y t v)

-- What looking at w combinations of the label shows, m being what varies: of the list's entries those still flagged are the
-- same in all of them, and entry e is one; or entry e differs in one.
module _ (x : Entries) (L : Label) (m w e : ℕ) (list : List ℕ) (state : List ℤ) where
  pub record AllAgree (before after : List ℕ) : Type 0 where
    pub fewer : (k : ℕ) → Up after k → Up before k
    pub agree : (i : ℕ) → i < length list → Up after (get_or list i 0) → (j : ℕ) → j < w → entry_in x (combination L m j) (get_or list i 0) ≡ get_or state (get_or list i 0) (pos 0)
    pub asked : Up after e

  pub record OneDiffers : Type 0 where
    pub place : ℕ
    pub below : place < w
    pub differs : entry_in x (combination L m place) e ≡ get_or state e (pos 0) → ⊥

-- Entry e is asked in the label with the set t and the values v, and is not flagged yet.
pub record Asked (x : Entries) (y : List ℕ) (v : List ℤ) (masks : List ℕ) (state : List ℤ) (known : List ℕ) (e t : ℕ) : Type 0 where
  pub readable : Readable x y t v
  pub masked : Masked x x.count masks
  pub concrete : Concrete x (label_in y t v) state
  pub flagged : Flagged x (label_in y t v) known
  pub few : x.count ≤ most_expressions
  pub long : x.count ≤ length known
  pub there : e < x.count
  pub down : Up known e → ⊥

-- The flags after that: as sound as before, none is lowered, and entry e is flagged exactly where it reads known.
pub record Widened (x : Entries) (L : Label) (e : ℕ) (before after : List ℕ) : Type 0 where
  pub flagged : Flagged x L after
  pub more : (k : ℕ) → Up before k → Up after k
  pub decided : is_up after e ≡ reads_known x L e
