-- What the value rule of a node stands on: what the rows before it give.
-- Assumes nothing.
use Rattle.std.specs.Prelude.{ℕ, ◌≤◌, ◌<◌, ◌≡◌, List, length}
use Rattle.model.specs.Model.{model_of}
use Rattle.model.specs.Valid as Models
use Rattle.graph.specs.Simulation.{node_field, node_count, simulation_of}
use Rattle.graph.specs.Valid.{FolderRight, EdgeRight}
use Rattle.graph.specs.Walks.{starts_at}
use Rattle.sums.specs.Tables.{Tables}

-- The model and the graph's folder are right, and so are the edges of node n, which start at `at`; the tables are the
-- model's; and there is a value for each node.
pub record ValueReady (m g values weights firsts : List ℕ) (n at : ℕ) : Type 0 where
  pub model : Models.Valid m
  pub folder : FolderRight (model_of m) g
  pub here : n < node_count (model_of m) g
  pub edges : (e : ℕ) → e < node_field (model_of m) g n 4 → EdgeRight (model_of m) (simulation_of (model_of m) g) n e
  pub tables : Tables (model_of m) weights firsts
  pub long : node_count (model_of m) g ≤ length values
  pub starts : at ≡ starts_at (model_of m) g n
