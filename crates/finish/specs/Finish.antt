-- Document 02, 2.5: the bytes of the two bodies of a graph that is built, with every value at S.
-- Assumes nothing.
use Rattle.std.specs.Prelude.{ℕ, List, ◌++◌}
use Rattle.model.specs.Model.{Model}
use Rattle.model.specs.Pedal.{fields}
use Rattle.graph.specs.Limits.{units}
use Rattle.graph.specs.Simulation.{Simulation}
use Rattle.building.specs.Building.{Building, as_simulation}
use Rattle.written.specs.Bytes.{node_body, edge_body}

abbrev pub certain : Model → Building → Simulation
certain M B = as_simulation M B (λ n. units)

unfoldable pub bodies_of : Model → Building → List ℕ
bodies_of M B = fields (node_body M (certain M B)) ++ fields (edge_body M (certain M B))
