-- Demand 3 holds of whatever satisfies the rules.
-- Assumes nothing.
use Prim.Native.Nat.{ℕ, ◌<◌}
use Rattle.mdp.specs.Mdp.{Mdp, Fair, alone}
use Rattle.mdp.specs.Graph.{Graph, Labelled, Valued}
use Rattle.mdp.specs.Demand.{Demand3}
use Rattle.mdp.proofs.Best.{Q≤P, best-reached}
use Rattle.mdp.proofs.Bound.{strategy-bound}
use Rattle.mdp.proofs.Figures.{figure-above, figure-near}

module _ (M : Mdp) (F : Fair M) (G : Graph) (S : ℕ) (In : ℕ → M.State → Type 0) (L : Labelled M G In) (value : ℕ → ℕ) (R : Valued M G S value) where
  pub demand : (initial : M.State) (concrete : ℕ → M.State) → 0 < G.nodes → In 0 initial → ((n : ℕ) → n < G.nodes → In n (concrete n))
      → Demand3 M S G initial concrete (value 0)
  demand initial concrete some-node root own = record {
    bound = λ σ k. strategy-bound M G S F In L value R σ k 0 some-node initial root;
    figures = λ none h n l. record {
      not-below = figure-above M F G S In L h n l (concrete n) (own n l);
      near = figure-near M F G S In L none h n l (concrete n) (own n l);
      none_above = λ σ. Q≤P M σ h (alone (concrete n));
      reached = best-reached M h (concrete n);
    };
  }
