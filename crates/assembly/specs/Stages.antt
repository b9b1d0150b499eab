-- The stages of a graph that is written: contents, bodies, values.
-- Assumes nothing.
use Rattle.std.specs.Prelude.{ℕ, ◌+◌, ◌≤◌, ◌≡◌, List, ◌++◌}
use Rattle.model.specs.Model.{Model, model_of}
use Rattle.model.specs.Pedal.{four, fields}
use Rattle.graph.specs.Limits.{least_bytes, units}
use Rattle.graph.specs.Figures.{over}
use Rattle.building.specs.Building.{Building, as_simulation}
use Rattle.building.specs.Length.{graph_length}
use Rattle.building.specs.Counts.{Walked}
use Rattle.building.specs.Built.{built}
use Rattle.wants.specs.Standing.{row_in}
use Rattle.work.specs.Working.{limit_of}
use Rattle.written.specs.Bytes.{node_body, edge_body}

-- The contents of a folder of two bodies, of so many bytes.
abbrev pub contents_by : ℕ → ℕ → List ℕ
contents_by a b = (four least_bytes ++ four a) ++ (four (least_bytes + a) ++ four b)

-- The two bodies of a graph that is built, with any values.
unfoldable pub bodies_by : Model → Building → (ℕ → ℕ) → List ℕ
bodies_by M B value = fields (node_body M (as_simulation M B value)) ++ fields (edge_body M (as_simulation M B value))

-- The bodies stand first in a slice that was `old` and is `new`, with every value at S; the row has where edges begin.
pub record Bodied (m : List ℕ) (longest nodes len : ℕ) (old new begins : List ℕ) : Type 0 where
  pub count : nodes ≡ (built (model_of m) (limit_of longest)).nodes
  pub long : len ≡ graph_length (model_of m) (built (model_of m) (limit_of longest))
  pub short : len ≤ longest
  pub are : new ≡ over (bodies_by (model_of m) (built (model_of m) (limit_of longest)) (λ _. units)) old
  pub walked : Walked (model_of m) (built (model_of m) (limit_of longest)) (row_in begins)
