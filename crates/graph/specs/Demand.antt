-- Demand 3 of two folders' bytes: what an accepted graph gives, whoever built it.
-- Assumes nothing.
use Rattle.std.specs.Prelude.{ℕ, ◌<◌, ◌≡◌, List, get_or, length, Ok}
use Rattle.mdp.specs.Demand.{RootBounds, FigureFits}
use Rattle.mdp.specs.Graph.{figure}
use Rattle.model.specs.Model.{model_of}
use Rattle.model.specs.Chances.{mdp, initial_state}
use Rattle.graph.specs.Limits.{units}
use Rattle.graph.specs.Simulation.{simulation_of, graph}
use Rattle.graph.specs.Labels.{concrete_state}
use Rattle.graph.specs.Table.{graph_answer}
use Rattle.graph.specs.Figures.{figure_outcome, figure_part}
use Rattle.graph.specs.declared.Summary.{Summary}

module _ (m g : List ℕ) where
  -- Of the graph check's answer s: the root value bounds every strategy; and if no node is waiting, every node's figure
  -- fits, for every h.
  pub record Bounds (s : Summary) : Type 0 where
    pub root : RootBounds (mdp (model_of m)) units (initial_state (model_of m)) s.root
    pub figures : s.waiting ≡ 0 → (h n : ℕ) → n < (simulation_of (model_of m) g).nodes
        → FigureFits (mdp (model_of m)) units h (concrete_state (model_of m) (simulation_of (model_of m) g) n) (figure (mdp (model_of m)) (graph (simulation_of (model_of m) g)) units h n)

  -- Of the part that the figure call for h steps hands back: one figure per node, and each fits.
  pub record PartFits (h : ℕ) (part : List ℕ) : Type 0 where
    pub one_each : length part ≡ (simulation_of (model_of m) g).nodes
    pub fits : (n : ℕ) → n < (simulation_of (model_of m) g).nodes
        → FigureFits (mdp (model_of m)) units h (concrete_state (model_of m) (simulation_of (model_of m) g) n) (get_or part n 0)

  -- No hypothesis but acceptance.
  abbrev pub Demand : Type 0
  Demand =
      ((s : Summary) → graph_answer m g ≡ Ok s → Bounds s)
      × ((h : ℕ) (first second : List ℕ) → figure_outcome m g h first second ≡ (Ok tt) → PartFits h (figure_part m g h first second))
