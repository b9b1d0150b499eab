-- Document 02, 2.5: the values, in place.
-- Assumes nothing.
use Rattle.std.specs.Prelude.{ℕ, zero, suc, eqb}
use Rattle.mdp.specs.Sums.{greatest, rounded_up}
use Rattle.mdp.specs.Graph.{along}
use Rattle.folder.specs.Pick.{pick}
use Rattle.model.specs.Model.{Model}
use Rattle.model.specs.Chances.{mdp}
use Rattle.graph.specs.Limits.{units}
use Rattle.graph.specs.Simulation.{Simulation, graph}
use Rattle.building.specs.First.{put}

module _ (M : Model) (G : Simulation) where
  -- The least that the value rule allows node n: by its edges (0 without), or its cover's value. Others keep theirs.
  unfoldable pub least_value : (ℕ → ℕ) → ℕ → ℕ
  least_value v n =
      pick (eqb (G.kind n) 1) (rounded_up (greatest (G.edges n) (λ e _. along (mdp M) (graph G) v n e)) M.total)
      (pick (eqb (G.kind n) 2) (v (G.cover n)) (v n))

  abbrev pub lowered : (ℕ → ℕ) → ℕ → ℕ → ℕ
  lowered v n = put n (least_value v n) v

  -- The nodes below n, upward; and k rounds over all.
  unfoldable pub swept : (ℕ → ℕ) → ℕ → ℕ → ℕ
  swept v zero = v
  swept v (suc n) = lowered (swept v n) n

  unfoldable pub rounds_of : ℕ → ℕ → ℕ
  rounds_of zero = λ n. units
  rounds_of (suc k) = swept (rounds_of k) G.nodes
