-- What rows 12 to 17 give of sizes: cursors on edges.
-- Assumes nothing.
use Prim.Native.Nat.{ℕ, ◌≤◌}
use native.Mathlib.Omega.{arith}
use mathlib.Core.Path.{◌≡◌}
use mathlib.Core.List.{List}
use Rattle.model.specs.Model.{model_of}
use Rattle.graph.specs.Limits.{most_bytes}
use Rattle.graph.specs.Simulation.{edge_at, node_field}
use Rattle.graph.proofs.EdgePlaces.{place-within, edges-short}
use Rattle.expand.specs.Node.{NodeOf}

-- No cursor on a node's edges leaves the folder.
pub cursor-small : {m g : List ℕ} {n : ℕ} → NodeOf m g n → (e : ℕ) {edges p : ℕ} → edges ≡ node_field (model_of m) g n 4 → e ≤ edges → p ≡ edge_at (model_of m) g n e → p ≤ most_bytes
cursor-small {m} {g} {n} node e q l s =
    omega (arith, place-within node.rows n e node.there (omega arith), edges-short node.rows)
