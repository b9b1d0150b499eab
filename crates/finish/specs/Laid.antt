-- Fields laid into a slice, one after the other; a node's final record and its edges, by the record that it has.
-- Assumes nothing.
use Rattle.std.specs.Prelude.{ℕ, zero, suc, ◌+◌, ◌-◌, ◌*◌, ◌/◌, ◌%◌, ◌<◌, ◌≤◌, ◌≡◌, List, [], ◌∷◌, ltb, length, get_or, ℤ}
use Rattle.mdp.specs.Kinds.{Kind}
use Rattle.folder.specs.Fields.{field_limit}
use Rattle.folder.specs.Pick.{pick}
use Rattle.folder.specs.Contents.{field}
use Rattle.folder.specs.Tab.{tab, passing}
use Rattle.expressions.specs.Meaning.{State}
use Rattle.expressions.specs.Reading.{has_bit}
use Rattle.model.specs.Layout.{variable_count}
use Rattle.model.specs.Model.{Model, model_of}
use Rattle.model.specs.Pedal.{fields}
use Rattle.graph.specs.Limits.{units}
use Rattle.graph.specs.Simulation.{node_size, kind_of}
use Rattle.building.specs.Building.{enabled, before, births, edge_commands, kind_number, if_covered, if_expanded}
use Rattle.building.specs.Length.{edges_length}
use Rattle.put.specs.Put.{Stays}
use Rattle.held.specs.Held.{kind_field, cover_field, child_field, tracked_field, state_field, field_count, node_in, state_in, NodeHere}
use Rattle.nodes.specs.Born.{on_in, children_in}
use Rattle.written.specs.Bytes.{chain}

-- The fields `us` stand from `at` on.
pub record Stand (at : ℕ) (us l : List ℕ) : Type 0 where
  pub is : (j : ℕ) → j < 2 * length us → get_or l (at + j) 0 ≡ get_or (fields us) j 0

-- They were laid there, and no other byte has changed.
pub record Laid (at : ℕ) (us old new : List ℕ) : Type 0 where
  pub stays : Stays at (at + 2 * length us) old new
  pub stand : Stand at us new

-- ---- the final record of node n
module _ (vars : ℕ) (nb : List ℕ) (n : ℕ) where
  -- The concrete values, then those of the label.
  unfoldable pub final_value : ℕ → ℕ
  final_value v =
      pick (ltb v vars) (field (node_size vars) nb n (state_field + v))
      (pick (has_bit (field (node_size vars) nb n tracked_field) (v - vars)) (field (node_size vars) nb n (state_field + (v - vars))) 0)

  unfoldable pub final_field : ℕ → ℕ → ℕ
  final_field edges zero = kind_number (kind_of (field (node_size vars) nb n kind_field))
  final_field edges (suc zero) = if_covered (kind_of (field (node_size vars) nb n kind_field)) (field (node_size vars) nb n cover_field)
  final_field edges (suc (suc zero)) = units % field_limit
  final_field edges (suc (suc (suc zero))) = units / field_limit
  final_field edges (suc (suc (suc (suc zero)))) = edges
  final_field edges (suc (suc (suc (suc (suc zero))))) = field (node_size vars) nb n tracked_field
  final_field edges (suc (suc (suc (suc (suc (suc v)))))) = final_value v

  abbrev pub final_record : ℕ → List ℕ
  final_record edges = tab (field_count vars) (final_field edges)

-- ---- the edges of a node whose children start at `child`
-- By the row of what entries are in its state: of command c, if it is enabled.
module _ (cs : List ℕ) (row : List ℤ) (child : ℕ) where
  abbrev pub edge_in : ℕ → List ℕ
  edge_in c = pick (on_in cs row c) (c ∷ tab (field 4 cs c 1) (λ b. child + children_in cs row c + b)) []

  -- Those of the commands before c are laid; how many they are.
  pub record EdgesLaid (at c count : ℕ) (old new : List ℕ) : Type 0 where
    pub laid : Laid at (chain c edge_in) old new
    pub counted : count ≡ length (passing c (on_in cs row))

-- The same in the model's words.
unfoldable pub edges_from : Model → State → ℕ → List ℕ
edges_from M s child = chain M.commands (λ c. pick (enabled M s c) (c ∷ tab (M.branches c) (λ b. child + before M s c + b)) [])

abbrev pub when_expanded : Kind → List ℕ → List ℕ
when_expanded Kind.waiting l = []
when_expanded Kind.expanded l = l
when_expanded Kind.covered l = []
when_expanded Kind.target l = []

-- ---- node n, by its record
module _ (m nb : List ℕ) (n : ℕ) where
  abbrev pub kind_in : Kind
  kind_in = kind_of (node_in m nb n kind_field)

  unfoldable pub own_edges : List ℕ
  own_edges = when_expanded kind_in (edges_from (model_of m) (state_in m nb n) (node_in m nb n child_field))

  unfoldable pub own_count : ℕ
  own_count = if_expanded kind_in (length (edge_commands (model_of m) (state_in m nb n)))

  unfoldable pub own_record : List ℕ
  own_record = final_record (variable_count m) nb n own_count

  -- Its edges can be laid from `at` on, past its record.
  pub record Fits (at : ℕ) : Type 0 where
    pub here : NodeHere m nb n
    pub past : node_size (variable_count m) * n + node_size (variable_count m) ≤ at
    pub room : at + if_expanded kind_in (edges_length (model_of m) (state_in m nb n)) ≤ length nb
    pub children : kind_in ≡ Kind.expanded → node_in m nb n child_field + births (model_of m) (state_in m nb n) ≤ field_limit

  -- They are laid.
  pub record OwnLaid (at count : ℕ) (new : List ℕ) : Type 0 where
    pub laid : Laid at own_edges nb new
    pub counted : count ≡ own_count
    pub few : count < field_limit

  -- Edges first, then the record.
  pub record Ended (at : ℕ) (new : List ℕ) : Type 0 where
    pub between : List ℕ
    pub edges : Laid at own_edges nb between
    pub final : Laid (node_size (variable_count m) * n) own_record between new
