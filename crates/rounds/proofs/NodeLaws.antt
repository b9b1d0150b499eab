-- A node of an accepted graph, as the code reads it: its figure is the definition's.
-- Assumes nothing.
use Prim.Native.Nat.{ℕ, ◌<◌}
use mathlib.Core.Path.{◌≡◌, sym, ◌∙◌}
use mathlib.Core.List.{List}
use Rattle.folder.specs.Contents.{field}
use Rattle.model.specs.Model.{Model, model_of}
use Rattle.graph.specs.Simulation.{Simulation, simulation_of}
use Rattle.graph.specs.Valid.{Valid}
use Rattle.graph.specs.Walks.{starts_at}
use Rattle.sums.specs.Edges.{best_of}
use Rattle.sums.specs.Tables.{Tables, figure_by}
use Rattle.rounds.specs.Rounds.{own_next}
use Rattle.sums.proofs.ModelLaws.{best-is}
use Rattle.sums.proofs.NodeLaws.{Parts}
use Rattle.rounds.proofs.RoundLaws.{own-next}

module _ {m g : List ℕ} (A : Valid m g) where
  abbrev M : Model
  M = model_of m

  abbrev G : Simulation
  G = simulation_of M g

  module _ {size d : ℕ} {cs nb eb : List ℕ} (P : Parts m g size d cs nb eb) {weights firsts : List ℕ} (T : Tables M weights firsts) where
    module _ {n at count : ℕ} (l : n < G.nodes) (a : at ≡ starts_at M g n) (q : count ≡ field size nb n 4) where
      module _ (row : List ℕ) {best : ℕ} (b : best ≡ best_of cs eb weights firsts row at count) where
        pub node-figure : {kind f : ℕ} → kind ≡ field size nb n 0 → f ≡ figure_by kind best d → f ≡ own_next M G row n
        node-figure k p =
            p ∙ rw (k, b, P.total, P.commands, P.edges, a, q, P.size_is, P.nodes, best-is m g A.model.model T n (A.rows.content.edges n l) row)
            (sym (own-next M G row n))
