-- A node of an accepted graph, as the code of rounds reads it: its edges are ready, their best sum is small, and the next
-- node's edges start where its own end.
-- Assumes nothing.
use Prim.Native.Nat.{ℕ, ◌+◌, ◌*◌, ◌≤◌, ◌<◌}
use native.Mathlib.Omega.{arith}
use mathlib.Core.Path.{◌≡◌, ◌∙◌}
use mathlib.Core.List.{List}
use Rattle.folder.specs.Contents.{body, field}
use Rattle.model.specs.Layout.{variable_count}
use Rattle.model.specs.Model.{Model, model_of}
use Rattle.graph.specs.Limits.{units}
use Rattle.graph.specs.Simulation.{Simulation, node_size, simulation_of}
use Rattle.graph.specs.Valid.{Valid}
use Rattle.graph.specs.Walks.{starts_at}
use Rattle.sums.specs.Edges.{after, EdgesReady, best_of}
use Rattle.sums.specs.Tables.{Tables, Round}
use Rattle.sums.proofs.ModelLaws.{edges-ready, best-is, next-starts, best-small}

-- What the code reads of the folders once: the size of a node, D, and the bodies of commands, nodes and edges.
pub record Parts (m g : List ℕ) (size d : ℕ) (cs nb eb : List ℕ) : Type 0 where
  pub size_is : size ≡ node_size (variable_count m)
  pub total : d ≡ (model_of m).total
  pub commands : cs ≡ body m 3
  pub nodes : nb ≡ body g 0
  pub edges : eb ≡ body g 1

module _ {m g : List ℕ} (A : Valid m g) where
  abbrev M : Model
  M = model_of m

  abbrev G : Simulation
  G = simulation_of M g

  pub some-total : 0 < M.total
  some-total = omega (arith, A.model.model.total)

  module _ {size d : ℕ} {cs nb eb : List ℕ} (P : Parts m g size d cs nb eb) {weights firsts : List ℕ} (T : Tables M weights firsts) where
    module _ {n at count : ℕ} (l : n < G.nodes) (a : at ≡ starts_at M g n) (q : count ≡ field size nb n 4) where
      pub node-ready : (nodes : ℕ) → G.nodes ≤ nodes → EdgesReady cs eb weights firsts nodes at count
      node-ready nodes k = rw (P.commands, P.edges, a, q, P.size_is, P.nodes) (edges-ready m g A.model.model T n (A.rows.content.edges n l) nodes k)

      pub node-next : {k : ℕ} → k ≡ after cs eb at count → k ≡ starts_at M g (n + 1)
      node-next p = p ∙ rw (P.commands, P.edges, a, q, P.size_is, P.nodes) (next-starts m g A.model.model T n (A.rows.content.edges n l))

      module _ (row : List ℕ) {best : ℕ} (b : best ≡ best_of cs eb weights firsts row at count) where
        pub node-small : Round G.nodes row → best ≤ d * units
        node-small S =
            rw (b, P.total, P.commands, P.edges, a, q, P.size_is, P.nodes, best-is m g A.model.model T n (A.rows.content.edges n l) row)
            (best-small m g A.model.model n (A.rows.content.edges n l) row S)
