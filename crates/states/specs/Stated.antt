-- What the entries are in a state, as a row: numbers, and 1 for true, 0 for false.
-- Assumes nothing.
use Rattle.std.specs.Prelude.{ℕ, ◌<◌, ◌≡◌, Bool, List, get_or, length, ℤ, pos}
use Rattle.folder.specs.Pick.{pick}
use Rattle.expressions.specs.Entries.{Entries, number_form, truth_form, is_number}
use Rattle.expressions.specs.Meaning.{State, number_in, truth_in}
use Rattle.expressions.specs.Parts.{EachN, EachT}
use Rattle.states.specs.Needed.{Up}

abbrev pub truth_number : Bool → ℤ
truth_number b = pick b (pos 1) (pos 0)

module _ (x : Entries) (s : State) where
  -- Entry e, by its sort.
  unfoldable pub entry_in : ℕ → ℤ
  entry_in e = pick (is_number x e) (number_in x s e) (truth_number (truth_in x s e))

  module _ (row : List ℤ) where
    -- The row has it of entry e.
    abbrev pub HasEntry : ℕ → Type 0
    HasEntry e = get_or row e (pos 0) ≡ entry_in e

    -- Of each part of entry e.
    pub record Parted (e : ℕ) : Type 0 where
      pub number : EachN HasEntry HasEntry (number_form x e)
      pub truth : EachT HasEntry HasEntry (truth_form x e)

    -- Of every entry.
    pub record StateRow : Type 0 where
      pub is : (e : ℕ) → e < x.count → HasEntry e

    -- Of those that are flagged.
    pub record HasFlagged (flags : List ℕ) : Type 0 where
      pub is : (e : ℕ) → e < x.count → Up flags e → HasEntry e

    -- Of the entries of a list.
    pub record HasAll (list : List ℕ) : Type 0 where
      pub is : (i : ℕ) → i < length list → HasEntry (get_or list i 0)
