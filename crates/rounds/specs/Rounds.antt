-- One round from the row of the last one, in the words of mdp's rounds; and what the rows hold after h of them.
-- Assumes nothing.
use Rattle.std.specs.Prelude.{ℕ, Bool, List, get_or, eqb, Ok}
use Rattle.mdp.specs.Graph.{start, again, shared, up, figure}
use Rattle.folder.specs.Pick.{pick}
use Rattle.folder.specs.Tab.{fill}
use Rattle.folder.specs.Scan.{all}
use Rattle.model.specs.Model.{Model, model_of}
use Rattle.model.specs.Chances.{mdp}
use Rattle.graph.specs.Limits.{units}
use Rattle.graph.specs.Simulation.{Simulation, graph, kind_of, node_count, simulation_of}
use Rattle.graph.specs.Figures.{first_of, second_of, in_first}

-- Whose figure a node takes: its cover's, if it has one.
unfoldable pub source : Simulation → ℕ → ℕ
source G n = pick (eqb (G.kind n) 2) (G.cover n) n

module _ (M : Model) (G : Simulation) where
  -- What node n holds in round 0, unless it is covered; and in the round after the one in `row`.
  unfoldable pub own_start : ℕ → ℕ
  own_start n = start (mdp M) (graph G) units units (up (mdp M) (graph G) units) (kind_of (G.kind n))

  unfoldable pub own_next : List ℕ → ℕ → ℕ
  own_next row n = again (mdp M) (graph G) units units (up (mdp M) (graph G) units) (λ k. get_or row k 0) (kind_of (G.kind n)) n

  -- The round after the one in `row`.
  unfoldable pub next_round : List ℕ → ℕ → ℕ
  next_round row n = shared (mdp M) (graph G) units units (up (mdp M) (graph G) units) (own_next row) (kind_of (G.kind n)) n

-- The same over the bytes of the two folders: what a row holds that was filled so.
module _ (m g : List ℕ) where
  abbrev pub nodes_of : ℕ
  nodes_of = node_count (model_of m) g

  abbrev pub own_start_row : List ℕ → List ℕ
  own_start_row row = fill nodes_of (own_start (model_of m) (simulation_of (model_of m) g)) row

  abbrev pub own_next_row : List ℕ → List ℕ → List ℕ
  own_next_row last row = fill nodes_of (own_next (model_of m) (simulation_of (model_of m) g) last) row

  -- Each node takes its source's figure.
  abbrev pub cover_row : List ℕ → List ℕ
  cover_row row = fill nodes_of (λ n. get_or row (source (simulation_of (model_of m) g) n) 0) row

  -- Round 0, and the round after the one in `last`.
  abbrev pub start_row : List ℕ → List ℕ
  start_row row = fill nodes_of (figure (mdp (model_of m)) (graph (simulation_of (model_of m) g)) units 0) row

  abbrev pub next_row : List ℕ → List ℕ → List ℕ
  next_row last row = fill nodes_of (next_round (model_of m) (simulation_of (model_of m) g) last) row

  -- What the two rows hold after h rounds, the row given being what they held before.
  unfoldable pub first_at : ℕ → List ℕ → List ℕ
  first_at h row = first_of (model_of m) (simulation_of (model_of m) g) h (Ok tt) row

  unfoldable pub second_at : ℕ → List ℕ → List ℕ
  second_at h row = second_of (model_of m) (simulation_of (model_of m) g) h (Ok tt) row

  -- What a turn makes of the rows: round k + 1 goes into the row of its parity, from round k in the other.
  unfoldable pub turn_first : ℕ → List ℕ → List ℕ → List ℕ
  turn_first k a b = pick (in_first k) a (next_row b a)

  unfoldable pub turn_second : ℕ → List ℕ → List ℕ → List ℕ
  turn_second k a b = pick (in_first k) (next_row a b) b

-- The row that holds round k.
unfoldable pub held_in : ℕ → List ℕ → List ℕ → List ℕ
held_in k a b = pick (in_first k) a b

-- Element i is the same in both rows; and so are the first n.
abbrev pub alike : List ℕ → List ℕ → ℕ → Bool
alike a b i = eqb (get_or a i 0) (get_or b i 0)

unfoldable pub same_first : ℕ → List ℕ → List ℕ → Bool
same_first n a b = all (alike a b) n
