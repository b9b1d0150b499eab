-- What an accepted graph gives the walk over its edges: each edge is ready, the walk goes as the graph's definition says,
-- and its greatest sum is the definition's, which divided by D is at most certainty.
-- Assumes nothing.
use Prim.Native.Nat.{ℕ, zero, suc, ◌+◌, ◌*◌, ◌≤◌, ◌<◌}
use native.Mathlib.Numerals.{add-one}
use native.Mathlib.Omega.{arith}
use mathlib.Core.Path.{◌≡◌, refl}
use mathlib.Core.List.{List}
use borrow.Author.Tests.{leb-true}
use lib.ListN.{length, get_or}
use Rattle.mdp.specs.Sums.{greatest}
use Rattle.mdp.specs.Graph.{along}
use Rattle.mdp.proofs.SumLaws.{sum-eq, greatest-eq, weighed, greatest-below}
use Rattle.folder.specs.Fields.{u16}
use Rattle.folder.specs.Contents.{body, field}
use Rattle.folder.proofs.ContentsLaws.{record-whole}
use Rattle.model.specs.Model.{Model, model_of, first_record}
use Rattle.model.specs.Chances.{mdp}
use Rattle.model.specs.Valid as Models
use Rattle.model.proofs.Chances.{records-end, record-there}
use Rattle.graph.specs.Limits.{units}
use Rattle.graph.specs.Simulation.{Simulation, edge_size, edge_after, edges_start, edge_whole, edge_at, node_field, simulation_of, graph}
use Rattle.graph.specs.Valid.{EdgeRight}
use Rattle.graph.specs.Walks.{starts_at}
use Rattle.sums.specs.Edges.{sum_at, after, EdgeReady, EdgesReady, sum_of, best_of}
use Rattle.sums.specs.Tables.{Tables, Round}

-- The walk is the graph's.
pub after_is : (m eb : List ℕ) (k j : ℕ) → after (body m 3) eb k j ≡ edge_after (model_of m) eb k j
unfolding edge_after edge_size
after_is m eb k zero = refl
after_is m eb k (suc j) = rw (after_is m eb k j) refl

module _ (m g : List ℕ) where
  abbrev M : Model
  M = model_of m

  abbrev G : Simulation
  G = simulation_of M g

  module _ (R : Models.ModelRight M) (n : ℕ) (E : (e : ℕ) → e < G.edges n → EdgeRight M G n e) where
    -- Figures of at most certainty have an average of at most certainty.
    pub best-small : (row : List ℕ) → Round G.nodes row
        → greatest (G.edges n) (λ e _. along (mdp M) (graph G) (λ k. get_or row k 0) n e) ≤ M.total * units
    best-small row S = omega (arith, greatest-below 1 (G.edges n) _ (M.total * units) (λ e k. each e (E e k)))
      where
        each : (e : ℕ) → EdgeRight M G n e
            → 1 * along (mdp M) (graph G) (λ k. get_or row k 0) n e ≤ M.total * units
        each e r = omega (
          arith,
          R.weights (G.command n e) r.command,
          weighed (M.branches (G.command n e)) (λ b. M.weight (first_record M (G.command n e) + b))
              (λ b _. get_or row (G.successor n e b) 0) (λ b _. 0) 1 0 units
              (λ b k. omega (arith, S.small (G.successor n e b) (r.successors b k))),
        )

  module _ (R : Models.ModelRight M) {weights firsts : List ℕ} (T : Tables M weights firsts) where
    -- Edge e of node n.
    module _ (n e : ℕ) (E : EdgeRight M G n e) where
      -- Where it stands, its command, and its branches.
      abbrev spot : ℕ
      spot = edge_at M g n e

      abbrev command : ℕ
      command = u16 (body g 1) spot

      abbrev branches : ℕ
      branches = field 4 (body m 3) command 1

      whole : spot + (2 + 2 * branches) ≤ length (body g 1)
      unfolding edge_whole edge_size
      whole = leb-true _ _ E.whole

      there : (b : ℕ) → b < branches → first_record M command + b < M.records
      there b l = record-there M R command b E.command l

      ends : first_record M command + branches ≤ length weights
      ends = omega (arith, records-end M R command E.command, T.weights-long)

      pub edge-ready : (nodes : ℕ) → G.nodes ≤ nodes → EdgeReady (body m 3) (body g 1) weights firsts nodes spot
      edge-ready nodes l = record {
        command = omega (arith, E.command, T.firsts-long);
        listed = record-whole 4 (body m 3) command E.command;
        fits = rw (T.placed command E.command) (record {
          few = (R.commands command E.command).few;
          records = ends;
          whole = omega (arith, whole);
          light = λ b k. T.light (first_record M command + b) (there b k);
          known = λ b k. omega (arith, E.successors b k);
        });
      }

      pub sum_is : (row : List ℕ) → sum_of (body m 3) (body g 1) weights firsts row spot ≡ along (mdp M) (graph G) (λ k. get_or row k 0) n e
      unfolding sum_of sum_at
      sum_is row = rw (T.placed command E.command) (sum-eq branches _ _ (λ b k. rw (T.weighed (first_record M command + b) (there b k)) refl))

    -- The edges of node n.
    module _ (n : ℕ) (E : (e : ℕ) → e < G.edges n → EdgeRight M G n e) where
      -- Where they start, and how many there are.
      abbrev starts : ℕ
      starts = starts_at M g n

      abbrev edges : ℕ
      edges = node_field M g n 4

      at-spot : (e : ℕ) → after (body m 3) (body g 1) starts e ≡ edge_at M g n e
      unfolding edge_at
      at-spot e = after_is m (body g 1) starts e

      pub edges-ready : (nodes : ℕ) → G.nodes ≤ nodes → EdgesReady (body m 3) (body g 1) weights firsts nodes starts edges
      edges-ready nodes l = record { each = λ e k. rw (at-spot e) (edge-ready n e (E e k) nodes l) }

      pub best-is : (row : List ℕ)
          → best_of (body m 3) (body g 1) weights firsts row starts edges ≡ greatest edges (λ e _. along (mdp M) (graph G) (λ k. get_or row k 0) n e)
      unfolding best_of
      best-is row = greatest-eq edges _ _ (λ e k. rw (at-spot e) (sum_is n e (E e k) row))

      pub next-starts : after (body m 3) (body g 1) starts edges ≡ starts_at M g (n + 1)
      unfolding edges_start
      next-starts = rw add-one (after_is m (body g 1) starts edges)
