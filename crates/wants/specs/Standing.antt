-- Document 02, 2.5: what looking for a repair stands on, and what it leaves.
-- Assumes nothing.
use Rattle.std.specs.Prelude.{ℕ, ◌*◌, ◌<◌, ◌≤◌, ◌≡◌, List, length, get_or, Option, None, Some}
use Rattle.model.specs.Layout.{variable_count}
use Rattle.model.specs.Model.{model_of}
use Rattle.model.specs.Valid.{Valid}
use Rattle.graph.specs.Limits.{most_nodes}
use Rattle.graph.specs.Simulation.{node_size}
use Rattle.building.specs.Moves.{Move, track, adopt, drop, cover_by, reach, expand}
use Rattle.building.specs.Kept.{Kept}
use Rattle.building.specs.Working.{ReadRight}
use Rattle.put.specs.Put.{Stays}
use Rattle.held.specs.Held.{parent_field, read_field, hint_field, field_count, node_in, held_in}
use Rattle.wants.specs.Wants.{MasksOf}

-- What the records have for a node besides the graph, and what a row has for it.
abbrev pub read_in : List ℕ → List ℕ → ℕ → ℕ
read_in m nb x = node_in m nb x read_field

abbrev pub parent_in : List ℕ → List ℕ → ℕ → ℕ
parent_in m nb x = node_in m nb x parent_field

abbrev pub hint_in : List ℕ → List ℕ → ℕ → ℕ
hint_in m nb x = node_in m nb x (hint_field m)

abbrev pub row_in : List ℕ → ℕ → ℕ
row_in row i = get_or row i 0

-- The model is accepted, and the records hold a graph that moves made.
pub record Held (m : List ℕ) (nodes : ℕ) (nb : List ℕ) : Type 0 where
  pub model : Valid m
  pub kept : Kept (model_of m) most_nodes (held_in m nodes nb)
  pub long : node_size (variable_count m) * nodes ≤ length nb

-- The masks are filled, and what is marked as read is read known.
pub record Standing (m masks : List ℕ) (nodes : ℕ) (nb : List ℕ) : Type 0 where
  pub held : Held m nodes nb
  pub masked : MasksOf m masks
  pub read : ReadRight (model_of m) (held_in m nodes nb) (read_in m nb)

-- Only what is marked as read has changed, and rightly.
pub record Reread (m : List ℕ) (nodes : ℕ) (old new : List ℕ) : Type 0 where
  pub held : held_in m nodes new ≡ held_in m nodes old
  pub read : ReadRight (model_of m) (held_in m nodes new) (read_in m new)
  pub others : (i f : ℕ) → f < field_count (variable_count m) → (f ≡ read_field → ⊥) → node_in m new i f ≡ node_in m old i f
  pub stays : Stays 0 (node_size (variable_count m) * nodes) old new

-- The node that a move concerns; `n` if there is none.
abbrev pub node_of : ℕ → Option Move → ℕ
node_of n None = n
node_of n (Some (track k v)) = k
node_of n (Some (adopt k)) = k
node_of n (Some (drop k)) = k
node_of n (Some (cover_by k c)) = k
node_of n (Some (reach k)) = k
node_of n (Some (expand k)) = k
