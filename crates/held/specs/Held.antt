-- Document 02, 2.5: a graph while it is built, in the node records of the slice that it is built in. `nb` is the slice past
-- the contents. Until the graph is whole, fields that are not needed yet serve the building: 2 has the first child of an
-- expanded node, 3 a node's parent, 4 which of its variables its parent is known to read, and the first label value a number
-- below which no node can cover it.
-- Assumes nothing.
use Rattle.std.specs.Prelude.{ℕ, ◌+◌, ◌*◌, ◌^◌, ◌<◌, ◌≤◌, List, [], ltb, length}
use Rattle.mdp.specs.Kinds.{Kind}
use Rattle.folder.specs.Pick.{pick}
use Rattle.folder.specs.Fields.{field_limit, signed16}
use Rattle.folder.specs.Contents.{field}
use Rattle.folder.specs.Tab.{tab}
use Rattle.expressions.specs.Meaning.{State}
use Rattle.expressions.specs.Combinations.{Label}
use Rattle.model.specs.Layout.{variable_count}
use Rattle.model.specs.Model.{model_of}
use Rattle.model.specs.Chances.{InRange}
use Rattle.model.specs.Valid.{Valid}
use Rattle.graph.specs.Simulation.{node_size, kind_of}
use Rattle.building.specs.Building.{Building, start_set, label_by}
use Rattle.put.specs.Put.{put2}

-- Fields of a node record, by number.
abbrev pub kind_field : ℕ
kind_field = 0

abbrev pub cover_field : ℕ
cover_field = 1

abbrev pub child_field : ℕ
child_field = 2

abbrev pub parent_field : ℕ
parent_field = 3

abbrev pub read_field : ℕ
read_field = 4

abbrev pub tracked_field : ℕ
tracked_field = 5

abbrev pub state_field : ℕ
state_field = 6

abbrev pub hint_field : List ℕ → ℕ
hint_field m = state_field + variable_count m

-- How many fields there are.
abbrev pub field_count : ℕ → ℕ
field_count vars = state_field + 2 * vars

module _ (m nb : List ℕ) where
  -- Field f of node n, its concrete state, and its label.
  abbrev pub node_in : ℕ → ℕ → ℕ
  node_in n f = field (node_size (variable_count m)) nb n f

  unfoldable pub state_in : ℕ → State
  state_in n = tab (variable_count m) (λ v. signed16 (node_in n (state_field + v)))

  abbrev pub set_in : ℕ → ℕ
  set_in n = node_in n tracked_field

  abbrev pub label_in : ℕ → Label
  label_in n = label_by (model_of m) (set_in n) (state_in n)

-- The building that the first records hold.
abbrev pub held_in : List ℕ → ℕ → List ℕ → Building
held_in m nodes nb = record {
  nodes = nodes;
  kind = λ n. pick (ltb n nodes) (kind_of (node_in m nb n kind_field)) Kind.waiting;
  cover = λ n. pick (ltb n nodes) (node_in m nb n cover_field) 0;
  tracked = λ n. pick (ltb n nodes) (set_in m nb n) (start_set (model_of m));
  state = λ n. pick (ltb n nodes) (state_in m nb n) [];
  child = λ n. pick (ltb n nodes) (node_in m nb n child_field) 0;
}

-- Field f of node n becomes u.
unfoldable pub put_in : ℕ → List ℕ → ℕ → ℕ → ℕ → List ℕ
put_in vars nb n f u = put2 nb (node_size vars * n + 2 * f) u

-- Node n becomes of kind k, by its number, with the cover c.
abbrev pub become_in : ℕ → List ℕ → ℕ → ℕ → ℕ → List ℕ
become_in vars nb n k c = put_in vars (put_in vars nb n kind_field k) n cover_field c

-- The record of node n is there.
abbrev pub Whole : ℕ → List ℕ → ℕ → Type 0
Whole vars nb n = node_size vars * n + node_size vars ≤ length nb

-- A node that can be read: the model is accepted, the state is in range, and the set has no variable past the last.
pub record NodeHere (m nb : List ℕ) (n : ℕ) : Type 0 where
  pub model : Valid m
  pub low : n ≤ field_limit
  pub small : set_in m nb n < 2 ^ variable_count m
  pub states : InRange (model_of m) (state_in m nb n)
