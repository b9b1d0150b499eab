-- What every move of the builder keeps; what the next move may count on; and a graph that wants no repair.
-- Assumes nothing.
use Rattle.std.specs.Prelude.{ℕ, ◌+◌, ◌^◌, ◌<◌, ◌≤◌, ◌≡◌, true, false, [], None}
use Rattle.mdp.specs.Kinds.{Kind}
use Rattle.expressions.specs.Meaning.{State, truth_in}
use Rattle.expressions.specs.Reading.{has_bit}
use Rattle.model.specs.Model.{Model}
use Rattle.model.specs.Chances.{InRange, next, initial_state}
use Rattle.building.specs.Building.{Building, start_set, enabled, before, births, is_open, contains}
use Rattle.building.specs.Length.{length_with}
use Rattle.building.specs.Moves.{Move, track, adopt, drop, cover_by, reach, expand, Limit, repair}

module _ (M : Model) where
  -- Of an expanded node in state s, whose children start at `child`: it is no target, and they are there, with the branches' results.
  pub record Parent (nodes : ℕ) (state : ℕ → State) (child : ℕ) (s : State) : Type 0 where
    pub no_target : truth_in M.entries s M.target ≡ false
    pub there : child + births M s ≤ nodes
    pub results : (c : ℕ) → c < M.commands → enabled M s c ≡ true → (b : ℕ) → b < M.branches c → state (child + before M s c + b) ≡ next M c b s

  -- Past the count all is as at the start: the nodes' rows say what a building is.
  pub record Blank (B : Building) (n : ℕ) : Type 0 where
    pub kind : B.kind n ≡ Kind.waiting
    pub cover : B.cover n ≡ 0
    pub tracked : B.tracked n ≡ start_set M
    pub state : B.state n ≡ []
    pub child : B.child n ≡ 0

  -- Two buildings say the same of node n.
  pub record Alike (B C : Building) (n : ℕ) : Type 0 where
    pub kind : B.kind n ≡ C.kind n
    pub cover : B.cover n ≡ C.cover n
    pub tracked : B.tracked n ≡ C.tracked n
    pub state : B.state n ≡ C.state n
    pub child : B.child n ≡ C.child n

  -- Of a covered node: its cover is there, and expanded or a target.
  pub record Under (nodes : ℕ) (kind : ℕ → Kind) (cover : ℕ) : Type 0 where
    pub there : cover < nodes
    pub opened : is_open (kind cover) ≡ true

  pub record Kept (most : ℕ) (B : Building) : Type 0 where
    pub some : 0 < B.nodes
    pub few : B.nodes ≤ most
    pub root : B.state 0 ≡ initial_state M
    pub states : (n : ℕ) → n < B.nodes → InRange M (B.state n)
    pub small : (n : ℕ) → n < B.nodes → B.tracked n < 2 ^ M.variables
    pub started : (n : ℕ) → n < B.nodes → (v : ℕ) → has_bit (start_set M) v ≡ true → has_bit (B.tracked n) v ≡ true
    pub targets : (n : ℕ) → n < B.nodes → B.kind n ≡ Kind.target → truth_in M.entries (B.state n) M.target ≡ true
    pub parents : (n : ℕ) → n < B.nodes → B.kind n ≡ Kind.expanded → Parent B.nodes B.state (B.child n) (B.state n)
    pub covers : (n : ℕ) → n < B.nodes → B.kind n ≡ Kind.covered → Under B.nodes B.kind (B.cover n)
    pub past : (n : ℕ) → B.nodes ≤ n → Blank B n

  module _ (P : Limit) where
    -- A move that may be made.
    pub data Apt (B : Building) : Move → Type 0 where
      may-track : {n v : ℕ} → n < B.nodes → v < M.variables → has_bit (B.tracked n) v ≡ false → Apt B (track n v)
      may-adopt : {n : ℕ} (v : ℕ) → n < B.nodes → B.kind n ≡ Kind.covered → v < M.variables → has_bit (B.tracked (B.cover n)) v ≡ true
          → has_bit (B.tracked n) v ≡ false → Apt B (adopt n)
      may-drop : {n : ℕ} → n < B.nodes → B.kind n ≡ Kind.covered → contains M B (B.cover n) (B.state n) ≡ false → Apt B (drop n)
      may-cover_by : {n c : ℕ} → n < B.nodes → B.kind n ≡ Kind.waiting → c < B.nodes → is_open (B.kind c) ≡ true
          → contains M B c (B.state n) ≡ true → Apt B (cover_by n c)
      may-reach : {n : ℕ} → n < B.nodes → B.kind n ≡ Kind.waiting → truth_in M.entries (B.state n) M.target ≡ true → Apt B (reach n)
      may-expand : {n : ℕ} → n < B.nodes → B.kind n ≡ Kind.waiting → truth_in M.entries (B.state n) M.target ≡ false
          → B.nodes + births M (B.state n) ≤ P.most → length_with M B n ≤ P.longest → Apt B (expand n)

  -- No rule is broken.
  abbrev pub Mended : Building → Type 0
  Mended B = (n : ℕ) → n < B.nodes → repair M B n ≡ None
