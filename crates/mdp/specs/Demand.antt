-- Demand 3, as a statement about a model and a graph, read as an Mdp and a Graph.
-- Assumes nothing.
use Rattle.std.specs.Prelude.{ℕ, ◌+◌, ◌*◌, ◌^◌, ◌≤◌, ◌<◌, ◌≡◌, ◌≢◌}
use Rattle.mdp.specs.Mdp.{Mdp, P, Q, Strategy, alone}
use Rattle.mdp.specs.Kinds.{Kind}
use Rattle.mdp.specs.Graph.{Graph, figure}

module _ (M : Mdp) (S : ℕ) where
  -- No strategy reaches a target from the initial state within k steps, for any k, with more than the root value:
  -- Q / D to the power k is at most root / S.
  abbrev pub RootBounds : M.State → ℕ → Type 0
  RootBounds initial root = (σ : Strategy M) (k : ℕ) → S * Q M σ k (alone initial) ≤ root * M.total ^ k

  -- A figure of u units for h steps from s is not below the best exact chance, and exceeds it by at most h units. No
  -- strategy beats the best, and some strategy equals it.
  pub record FigureFits (h : ℕ) (s : M.State) (u : ℕ) : Type 0 where
    pub not-below : S * P M h s ≤ u * M.total ^ h
    pub near : u * M.total ^ h ≤ S * P M h s + h * M.total ^ h
    pub none_above : (σ : Strategy M) → Q M σ h (alone s) ≤ P M h s
    pub reached : (σ : Strategy M) × (Q M σ h (alone s) ≡ P M h s)

  module _ (G : Graph) (initial : M.State) (concrete : ℕ → M.State) where
    pub record Demand3 (root : ℕ) : Type 0 where
      pub bound : RootBounds initial root
      pub figures : ((n : ℕ) → n < G.nodes → G.kind n ≢ Kind.waiting) → (h n : ℕ) → n < G.nodes → FigureFits h (concrete n) (figure M G S h n)
