-- The entries that a reading by all states looks at: rows of flags, and a list in which parts stand before what they are
-- parts of.
-- Assumes nothing.
use Rattle.std.specs.Prelude.{ℕ, ◌<◌, ◌≤◌, ◌≡◌, Bool, true, not, ◌&&◌, List, eqb, length, get_or, take, ℤ, pos}
use Rattle.folder.specs.Pick.{pick}
use Rattle.expressions.specs.Entries.{Entries, number_form, truth_form}
use Rattle.expressions.specs.Mentions.{union}
use Rattle.expressions.specs.Parts.{EachN, EachT}

-- A flag is up where it is 1.
abbrev pub is_up : List ℕ → ℕ → Bool
is_up flags e = eqb (get_or flags e 0) 1

abbrev pub Up : List ℕ → ℕ → Type 0
Up flags e = get_or flags e 0 ≡ 1

abbrev pub flag_if : Bool → ℕ
flag_if b = pick b 1 0

-- Entry k is one of a group: not known yet, and with the set t of tracked variables it has the same untracked ones as the set m.
unfoldable pub in_group : List ℕ → List ℕ → ℕ → ℕ → ℕ → Bool
in_group masks known m t k = not (is_up known k) && eqb (union (get_or masks k 0) t) (union m t)

module _ (x : Entries) where
  -- The parts of entry e are flagged.
  pub record PartsUp (flags : List ℕ) (e : ℕ) : Type 0 where
    pub number : EachN (Up flags) (Up flags) (number_form x e)
    pub truth : EachT (Up flags) (Up flags) (truth_form x e)

  -- So are those of every flagged entry from `from` on.
  pub record ClosedFrom (flags : List ℕ) (from : ℕ) : Type 0 where
    pub parts : (e : ℕ) → from ≤ e → e < x.count → Up flags e → PartsUp flags e

  -- p stands in the list before place i.
  pub record Before (list : List ℕ) (i p : ℕ) : Type 0 where
    pub place : ℕ
    pub earlier : place < i
    pub stands : get_or list place 0 ≡ p

  -- The list has entries, each after its parts.
  pub record Ordered (list : List ℕ) : Type 0 where
    pub there : (i : ℕ) → i < length list → get_or list i 0 < x.count
    pub number : (i : ℕ) → i < length list → EachN (Before list i) (Before list i) (number_form x (get_or list i 0))
    pub truth : (i : ℕ) → i < length list → EachT (Before list i) (Before list i) (truth_form x (get_or list i 0))

  -- The first `count` of the row are such a list, and every member is in it.
  pub record Chosen (member : ℕ → Bool) (count : ℕ) (row : List ℕ) : Type 0 where
    pub within : count ≤ length row
    pub ordered : Ordered (take count row)
    pub members : (k : ℕ) → k < x.count → member k ≡ true → Before (take count row) (length (take count row)) k

-- What raising the flags of entry e's parts does: flags stay up, and from e on they are as they were.
pub record Raised (e : ℕ) (before after : List ℕ) : Type 0 where
  pub more : (k : ℕ) → Up before k → Up after k
  pub above : (k : ℕ) → e ≤ k → get_or after k 0 ≡ get_or before k 0

-- A flag stays up where the two rows have the same.
abbrev pub kept_if : Bool → ℕ → ℕ
kept_if same flag = pick same flag 0

-- The flags after a comparison along a list: fewer are up; of the list none where the rows differ; and where one is no longer up, they differ.
pub record Compared (list : List ℕ) (values state : List ℤ) (before after : List ℕ) : Type 0 where
  pub fewer : (k : ℕ) → Up after k → Up before k
  pub same : (i : ℕ) → i < length list → Up after (get_or list i 0) → get_or values (get_or list i 0) (pos 0) ≡ get_or state (get_or list i 0) (pos 0)
  pub differs : (k : ℕ) → Up before k → (Up after k → ⊥) → get_or values k (pos 0) ≡ get_or state k (pos 0) → ⊥

-- A flag that is up in either of two rows.
abbrev pub either_up : ℕ → ℕ → ℕ
either_up a b = pick (eqb a 1) 1 b
