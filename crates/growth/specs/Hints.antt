-- Document 02, 2.5: what settling the hints leaves.
-- Assumes nothing.
use Rattle.std.specs.Prelude.{ℕ, ◌*◌, ◌<◌, ◌≡◌, List}
use Rattle.model.specs.Layout.{variable_count}
use Rattle.model.specs.Model.{model_of}
use Rattle.graph.specs.Simulation.{node_size}
use Rattle.building.specs.Working.{HintRight}
use Rattle.put.specs.Put.{Stays}
use Rattle.held.specs.Held.{hint_field, field_count, node_in}
use Rattle.wants.specs.Standing.{hint_in}
use Rattle.work.specs.declared.Work.{Work}
use Rattle.work.specs.Working.{graph_in}

-- The hints hold for all nodes, and nothing else has changed.
pub record HintsSettled (m : List ℕ) (w : Work) (old new : List ℕ) : Type 0 where
  pub held : graph_in m w new ≡ graph_in m w old
  pub hints : HintRight (model_of m) (graph_in m w new) (hint_in m new) w.nodes
  pub others : (i f : ℕ) → f < field_count (variable_count m) → (f ≡ hint_field m → ⊥) → node_in m new i f ≡ node_in m old i f
  pub stays : Stays 0 (node_size (variable_count m) * w.nodes) old new
