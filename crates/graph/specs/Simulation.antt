-- Document 01, "Folders": a simulation graph, and the one that a graph folder's bytes hold.
-- Assumes nothing.
use Rattle.std.specs.Prelude.{ℕ, zero, suc, ◌+◌, ◌*◌, List, Bool, length, leb, eqb, ℤ}
use Rattle.mdp.specs.Kinds.{Kind, waiting, expanded, covered, target}
use Rattle.mdp.specs.Graph.{Graph}
use Rattle.folder.specs.Pick.{pick}
use Rattle.folder.specs.Fields.{u16}
use Rattle.folder.specs.Contents.{body, count_of, field, signed_field, field4}
use Rattle.model.specs.Model.{Model}

-- Bodies, and so contents entries: 0 nodes, 1 edges.
abbrev pub bodies : ℕ
bodies = 2

-- Bytes of a node: kind, cover, value (4), edge count, tracked set, then a concrete and a label value per variable.
abbrev pub node_size : ℕ → ℕ
node_size variables = 12 + 4 * variables

-- An edge at position k of the body b: a command, then one node number per branch. Its bytes, by its branch count.
abbrev pub edge_bytes : ℕ → ℕ
edge_bytes branches = 2 + 2 * branches

abbrev pub command_in : List ℕ → ℕ → ℕ
command_in b k = u16 b k

abbrev pub successor_in : List ℕ → ℕ → ℕ → ℕ
successor_in b k branch = u16 b (k + 2 + 2 * branch)

-- Edges stand in node order. `b` is their body.
module _ (M : Model) (b : List ℕ) where
  -- Bytes of the edge at position k.
  unfoldable pub edge_size : ℕ → ℕ
  edge_size k = edge_bytes (M.branches (command_in b k))

  -- Where the edge that is j edges after the one at k stands.
  unfoldable pub edge_after : ℕ → ℕ → ℕ
  edge_after k zero = k
  edge_after k (suc j) = edge_after k j + edge_size (edge_after k j)

  -- Where the edges of node n start, node i having `edges i` of them.
  unfoldable pub edges_start : (ℕ → ℕ) → ℕ → ℕ
  edges_start edges zero = 0
  edges_start edges (suc n) = edge_after (edges_start edges n) (edges n)

  -- The edge at k ends by the body's end.
  unfoldable pub edge_whole : ℕ → Bool
  edge_whole k = leb (k + edge_size k) (length b)

-- A simulation graph.
pub record Simulation : Type 0 where
  pub nodes : ℕ
  pub kind : ℕ → ℕ
  pub cover : ℕ → ℕ
  pub value : ℕ → ℕ
  pub edges : ℕ → ℕ
  -- The tracked set, and the values of the concrete label and of the abstract one, by variable.
  pub tracked : ℕ → ℕ
  pub concrete : ℕ → ℕ → ℤ
  pub label : ℕ → ℕ → ℤ
  -- Of a node's edge: its command, its successor for each branch, and whether all of it is there.
  pub command : ℕ → ℕ → ℕ
  pub successor : ℕ → ℕ → ℕ → ℕ
  pub whole : ℕ → ℕ → Bool
  -- No bytes are left after the last node's edges.
  pub spent : Bool

module _ (M : Model) (g : List ℕ) where
  abbrev pub node_field : ℕ → ℕ → ℕ
  node_field n f = field (node_size M.variables) (body g 0) n f

  abbrev pub signed_node_field : ℕ → ℕ → ℤ
  signed_node_field n f = signed_field (node_size M.variables) (body g 0) n f

  -- Where edge j of node n stands.
  unfoldable pub edge_at : ℕ → ℕ → ℕ
  edge_at n j = edge_after M (body g 1) (edges_start M (body g 1) (λ i. node_field i 4) n) j

  abbrev pub node_count : ℕ
  node_count = count_of (node_size M.variables) (body g 0)

  abbrev pub simulation_of : Simulation
  simulation_of = record {
    nodes = node_count;
    kind = λ n. node_field n 0;
    cover = λ n. node_field n 1;
    value = λ n. field4 (node_size M.variables) (body g 0) n 2;
    edges = λ n. node_field n 4;
    tracked = λ n. node_field n 5;
    concrete = λ n v. signed_node_field n (6 + v);
    label = λ n v. signed_node_field n (6 + M.variables + v);
    command = λ n e. command_in (body g 1) (edge_at n e);
    successor = λ n e b. successor_in (body g 1) (edge_at n e) b;
    whole = λ n e. edge_whole M (body g 1) (edge_at n e);
    spent = eqb (edges_start M (body g 1) (λ i. node_field i 4) node_count) (length (body g 1));
  }

-- A kind by its number.
unfoldable pub kind_of : ℕ → Kind
kind_of k = pick (eqb k 1) expanded (pick (eqb k 2) covered (pick (eqb k 3) target waiting))

-- As mdp's graph, without labels and values.
abbrev pub graph : Simulation → Graph
graph G = record {
  nodes = G.nodes;
  kind = λ n. kind_of (G.kind n);
  cover = G.cover;
  edges = G.edges;
  command = G.command;
  successor = G.successor;
}
