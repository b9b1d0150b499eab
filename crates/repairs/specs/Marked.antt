-- Nodes that are marked as read by their parents.
-- Assumes nothing.
use Rattle.std.specs.Prelude.{ℕ, ◌*◌, ◌<◌, ◌≤◌, ◌≡◌, List}
use Rattle.folder.specs.Contents.{field}
use Rattle.graph.specs.Simulation.{node_size}
use Rattle.put.specs.Put.{Stays}
use Rattle.held.specs.Held.{read_field, tracked_field, field_count}

-- The nodes from `from` to below `i` are marked as read: all that they track.
pub record AllMarked (vars from i : ℕ) (old new : List ℕ) : Type 0 where
  pub stays : Stays (node_size vars * from) (node_size vars * i) old new
  pub inside : (x : ℕ) → from ≤ x → x < i → field (node_size vars) new x read_field ≡ field (node_size vars) old x tracked_field
  pub others : (x f : ℕ) → f < field_count vars → (f ≡ read_field → x < from) → field (node_size vars) new x f ≡ field (node_size vars) old x f
  pub later : (x : ℕ) → i ≤ x → field (node_size vars) new x read_field ≡ field (node_size vars) old x read_field
