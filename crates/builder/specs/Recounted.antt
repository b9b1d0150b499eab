-- Document 02, 2.6: what counting the nodes and walking the edges would give, of the bytes that a graph has while it is built.
-- Assumes nothing.
use Rattle.std.specs.Prelude.{ℕ, ◌<◌, ◌≡◌, List}
use Rattle.model.specs.Model.{model_of}
use Rattle.graph.specs.Simulation.{simulation_of}
use Rattle.graph.specs.Walks.{starts_at}
use Rattle.graph.specs.Table.{kind_count}
use Rattle.building.specs.Building.{as_simulation}
use Rattle.written.specs.Bytes.{graph_bytes}
use Rattle.wants.specs.Standing.{row_in}
use Rattle.work.specs.declared.Work.{Work}
use Rattle.work.specs.Working.{graph_in}

-- The graph that the records hold, as it would be written, with these values.
abbrev pub bytes_now : List ℕ → Work → List ℕ → (ℕ → ℕ) → List ℕ
bytes_now m w nb value = graph_bytes (model_of m) (as_simulation (model_of m) (graph_in m w nb) value)

-- The working state has the count of its waiting nodes, and where the edges of each node start.
pub record Recounted (m : List ℕ) (w : Work) (nb begins : List ℕ) (value : ℕ → ℕ) : Type 0 where
  pub counted : w.waiting ≡ kind_count (simulation_of (model_of m) (bytes_now m w nb value)) 0
  pub walked : (n : ℕ) → n < w.nodes → row_in begins n ≡ starts_at (model_of m) (bytes_now m w nb value) n
