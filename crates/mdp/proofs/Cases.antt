-- What holds of the uncovered nodes, by their kinds, and passes from a cover to what it covers holds of all nodes.
-- Assumes nothing.
use Prim.Native.Nat.{ℕ, ◌<◌}
use mathlib.Core.Path.{◌≡◌, refl}
use Rattle.mdp.specs.Mdp.{Mdp}
use Rattle.mdp.specs.Kinds.{Kind}
use Rattle.mdp.specs.Graph.{Graph, Labelled}

module _ (M : Mdp) (G : Graph) (In : ℕ → M.State → Type 0) (L : Labelled M G In) where
  open M use {State}
  open G use {nodes, kind, cover}

  -- B holds of the states of the labels of all nodes of a kind.
  abbrev pub Holds : (ℕ → State → Type 0) → Kind → Type 0
  Holds B κ = (n : ℕ) → n < nodes → kind n ≡ κ → (s : State) → In n s → B n s

  by_kind : (B : ℕ → State → Type 0) → Holds B Kind.waiting → Holds B Kind.expanded → Holds B Kind.target
      → (n : ℕ) → n < nodes → (κ : Kind) → kind n ≡ κ → (s : State) → In n s → (kind n ≡ Kind.covered → B n s) → B n s
  by_kind B w x t n l Kind.waiting e s i c = w n l e s i
  by_kind B w x t n l Kind.expanded e s i c = x n l e s i
  by_kind B w x t n l Kind.covered e s i c = c e
  by_kind B w x t n l Kind.target e s i c = t n l e s i

  pub each-node : (B : ℕ → State → Type 0) → Holds B Kind.waiting → Holds B Kind.expanded → Holds B Kind.target
      → ((n : ℕ) → n < nodes → kind n ≡ Kind.covered → (s : State) → B (cover n) s → B n s)
      → (n : ℕ) → n < nodes → (s : State) → In n s → B n s
  each-node B w x t c n l s i = by_kind B w x t n l (kind n) refl s i (λ e.
      let C = L.covereds n l e in
      c n l e s (by_kind B w x t (cover n) C.known (kind (cover n)) refl s (C.within s i) (λ f. absurd (C.open-cover f))))
