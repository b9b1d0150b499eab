-- Document 02, 2.5: what a graph that is built is good for.
-- Assumes nothing.
use Rattle.std.specs.Prelude.{ℕ, ◌<◌, ◌≡◌, List, Ok}
use Rattle.mdp.specs.Graph.{figure}
use Rattle.mdp.specs.Demand.{RootBounds, FigureFits}
use Rattle.model.specs.Model.{Model, model_of}
use Rattle.model.specs.Chances.{mdp, initial_state}
use Rattle.graph.specs.Limits.{units}
use Rattle.graph.specs.Simulation.{Simulation, graph}
use Rattle.graph.specs.Labels.{concrete_state}
use Rattle.graph.specs.Table.{summary, graph_answer}
use Rattle.graph.specs.Demand.{Bounds}
use Rattle.building.specs.Moves.{Limit}
use Rattle.building.specs.Length.{waiting_count}
use Rattle.building.specs.Built.{built, built_graph}
use Rattle.written.specs.Bytes.{graph_bytes}

module _ (m : List ℕ) (P : Limit) (rounds : ℕ) where
  abbrev M : Model
  M = model_of m

  abbrev G : Simulation
  G = built_graph M P rounds

  pub record BuiltDemand : Type 0 where
    -- The graph check accepts the bytes, with the graph's own root value and counts; and so demand 3 holds of them.
    pub answer : graph_answer m (graph_bytes M G) ≡ Ok (summary G)
    pub bounds : Bounds m (graph_bytes M G) (summary G)
    -- Of the graph itself: its root value bounds every strategy; and if no node waits, every node's figure fits, for every h.
    pub root : RootBounds (mdp M) units (initial_state M) (G.value 0)
    pub figures : waiting_count (built M P) ≡ 0 → (h n : ℕ) → n < G.nodes → FigureFits (mdp M) units h (concrete_state M G n) (figure (mdp M) (graph G) units h n)
