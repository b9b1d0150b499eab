-- Document 01's table, rows 12 to 25: the test of each row at a place.
-- Assumes nothing.
use Rattle.std.specs.Prelude.{ℕ, ◌+◌, ◌*◌, ◌/◌, ◌%◌, ◌^◌, List, Bool, ◌&&◌, not, length, ltb, leb, eqb, pos}
use Rattle.mdp.specs.Graph.{along}
use Rattle.folder.specs.Pick.{pick, implies}
use Rattle.folder.specs.Scan.{all}
use Rattle.folder.specs.Tab.{tab, passing, same_list}
use Rattle.folder.specs.Contents.{body}
use Rattle.whole.specs.Order.{eq_z}
use Rattle.expressions.specs.Meaning.{number_in}
use Rattle.expressions.specs.Reading.{is_known, is_true, is_false, reads}
use Rattle.model.specs.Model.{Model, first_record}
use Rattle.model.specs.Rules.{between}
use Rattle.model.specs.Chances.{mdp}
use Rattle.graph.specs.Limits.{least_bytes, most_bytes, most_nodes, units}
use Rattle.graph.specs.Simulation.{Simulation, node_size, node_count, graph}
use Rattle.graph.specs.Labels.{tracks, concrete_state, number_of, truth_of}

-- Row 12.
abbrev pub bytes_fit : List ℕ → Bool
bytes_fit g = leb least_bytes (length g) && leb (length g) most_bytes

-- Row 14.
unfoldable pub nodes_fit : Model → List ℕ → Bool
nodes_fit M g = (eqb (length (body g 0) % node_size M.variables) 0 && leb 1 (node_count M g)) && leb (node_count M g) most_nodes

-- Kinds by their numbers.
abbrev pub is_waiting : Simulation → ℕ → Bool
is_waiting G n = eqb (G.kind n) 0

abbrev pub is_expanded : Simulation → ℕ → Bool
is_expanded G n = eqb (G.kind n) 1

abbrev pub is_covered : Simulation → ℕ → Bool
is_covered G n = eqb (G.kind n) 2

abbrev pub is_target : Simulation → ℕ → Bool
is_target G n = eqb (G.kind n) 3

-- Row 16, of an edge: its command is there, it is whole, and each successor is one of the nodes.
abbrev pub edge_stands : Model → ℕ → ℕ → Bool → (ℕ → ℕ) → Bool
edge_stands M nodes command whole successor = (ltb command M.commands && whole) && all (λ b. ltb (successor b) nodes) (M.branches command)

module _ (M : Model) (G : Simulation) where
  -- Row 15: node n. Its kind, value, cover and edge count; no bit past the variables; and each variable's values.
  unfoldable pub head_fits : ℕ → Bool
  head_fits n =
      (leb (G.kind n) 3 && leb (G.value n) units)
      && (implies (not (is_covered G n)) (eqb (G.cover n) 0) && implies (not (is_expanded G n)) (eqb (G.edges n) 0))

  unfoldable pub values_fit : ℕ → ℕ → Bool
  values_fit n v = between (M.low v) (M.high v) (G.concrete n v) && implies (not (tracks G n v)) (eq_z (G.label n v) (pos 0))

  unfoldable pub node_fits : ℕ → Bool
  node_fits n = head_fits n && (eqb (G.tracked n / 2 ^ M.variables) 0 && all (values_fit n) M.variables)

  -- Row 16: edge e of node n; the edges of node n; and, at the node count, that no bytes are over.
  unfoldable pub edge_fits : ℕ → ℕ → Bool
  edge_fits n e = edge_stands M G.nodes (G.command n e) (G.whole n e) (G.successor n e)

  unfoldable pub edges_fit : ℕ → Bool
  edges_fit n = pick (ltb n G.nodes) (all (edge_fits n) (G.edges n)) G.spent

  -- Row 17: the root's concrete label is the initial state.
  unfoldable pub root_fits : Bool
  root_fits = all (λ v. eq_z (G.concrete 0 v) (M.initial v)) M.variables

  -- Row 18, A1: the label agrees with the concrete label on the tracked variables.
  unfoldable pub A1 : ℕ → Bool
  A1 n = all (λ v. implies (tracks G n v) (eq_z (G.label n v) (G.concrete n v))) M.variables

  -- Row 19, A2: read in the label, an expanded node's guards are known and its target is false; a target's target is true.
  unfoldable pub A2 : ℕ → Bool
  A2 n =
      implies (is_expanded G n) (all (λ c. is_known (truth_of M G n (M.guard c))) M.commands && is_false (truth_of M G n M.target))
      && implies (is_target G n) (is_true (truth_of M G n M.target))

  -- Row 20, B1: an expanded node's edges are the commands enabled in its label, each once, ascending.
  abbrev pub enabled_in : ℕ → ℕ → Bool
  enabled_in n c = is_true (truth_of M G n (M.guard c))

  abbrev pub same_edges : ℕ → Bool
  same_edges n = same_list (tab (G.edges n) (G.command n)) (passing M.commands (enabled_in n))

  unfoldable pub B1 : ℕ → Bool
  B1 n = implies (is_expanded G n) (same_edges n)

  -- Row 21, B2: the successor s of node n by branch record r. Its concrete label is the branch's result, and each
  -- variable that it tracks reads known in n's label, with s's label value.
  unfoldable pub result_is : ℕ → ℕ → ℕ → ℕ → Bool
  result_is n r s v = eq_z (G.concrete s v) (number_in M.entries (concrete_state M G n) (M.assigned r v))

  unfoldable pub label_follows : ℕ → ℕ → ℕ → ℕ → Bool
  label_follows n r s v = implies (tracks G s v) (reads (number_of M G n (M.assigned r v)) (G.label s v))

  unfoldable pub follows : ℕ → ℕ → ℕ → Bool
  follows n r s = all (result_is n r s) M.variables && all (label_follows n r s) M.variables

  unfoldable pub edge_follows : ℕ → ℕ → Bool
  edge_follows n e = all (λ b. follows n (first_record M (G.command n e) + b) (G.successor n e b)) (M.branches (G.command n e))

  abbrev pub edges_follow : ℕ → Bool
  edges_follow n = all (edge_follows n) (G.edges n)

  unfoldable pub B2 : ℕ → Bool
  B2 n = implies (is_expanded G n) (edges_follow n)

  -- Row 22, C3: a covered node's cover is there, and is not itself covered.
  unfoldable pub C3 : ℕ → Bool
  C3 n = implies (is_covered G n) (ltb (G.cover n) G.nodes && not (is_covered G (G.cover n)))

  -- Row 23, C1: its concrete label lies in the cover's label.
  unfoldable pub C1 : ℕ → Bool
  C1 n = implies (is_covered G n) (all (λ v. implies (tracks G (G.cover n) v) (eq_z (G.concrete n v) (G.label (G.cover n) v))) M.variables)

  -- Row 24, C2: it tracks each variable that the cover tracks, with the same value.
  unfoldable pub C2 : ℕ → Bool
  C2 n =
      implies (is_covered G n)
      (all (λ v. implies (tracks G (G.cover n) v) (tracks G n v && eq_z (G.label n v) (G.label (G.cover n) v))) M.variables)

  -- Row 25: the value rule, of any value for each node.
  unfoldable pub value_rule : (ℕ → ℕ) → ℕ → Bool
  value_rule value n =
      (implies (is_waiting G n) (eqb (value n) units) && implies (is_target G n) (eqb (value n) units))
      && (implies (is_expanded G n) (all (λ e. leb (along (mdp M) (graph G) value n e) (M.total * value n)) (G.edges n))
      && implies (is_covered G n) (leb (value (G.cover n)) (value n)))
