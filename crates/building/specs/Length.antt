-- Document 02, 2.5: the length of a graph while it is built, where its nodes' edges begin, and how many nodes wait.
-- Assumes nothing.
use Rattle.std.specs.Prelude.{ℕ, ◌+◌, ◌*◌}
use Rattle.mdp.specs.Sums.{sum}
use Rattle.mdp.specs.Kinds.{Kind}
use Rattle.folder.specs.Pick.{pick}
use Rattle.expressions.specs.Meaning.{State}
use Rattle.model.specs.Model.{Model}
use Rattle.graph.specs.Limits.{least_bytes}
use Rattle.graph.specs.Simulation.{node_size, edge_bytes}
use Rattle.building.specs.Building.{Building, enabled, births, if_expanded}

-- Bytes of the edges of a node expanded in state s.
unfoldable pub edges_length : Model → State → ℕ
edges_length M s = sum M.commands (λ c _. pick (enabled M s c) (edge_bytes (M.branches c)) 0)

module _ (M : Model) (B : Building) where
  abbrev pub edges_of : ℕ → ℕ
  edges_of i = if_expanded (B.kind i) (edges_length M (B.state i))

  -- Where node n's edges begin among the edges, or would begin if it has none.
  unfoldable pub edges_before : ℕ → ℕ
  edges_before n = sum n (λ i _. edges_of i)

  -- The contents, the nodes and the edges.
  unfoldable pub graph_length : ℕ
  graph_length = least_bytes + node_size M.variables * B.nodes + edges_before B.nodes

  -- With node n expanded too.
  unfoldable pub length_with : ℕ → ℕ
  length_with n = graph_length + (node_size M.variables * births M (B.state n) + edges_length M (B.state n))

abbrev pub if_waiting : Kind → ℕ
if_waiting Kind.waiting = 1
if_waiting Kind.expanded = 0
if_waiting Kind.covered = 0
if_waiting Kind.target = 0

unfoldable pub waiting_count : Building → ℕ
waiting_count B = sum B.nodes (λ n _. if_waiting (B.kind n))
