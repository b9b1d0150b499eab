-- A node of an accepted graph, as the code reads it: it is set to the definition's value, which is at most certainty.
-- Assumes nothing.
use Prim.Native.Nat.{ℕ, ◌≤◌, ◌<◌}
use native.Mathlib.Decide.{ℕ_discrete}
use native.Mathlib.Omega.{arith}
use mathlib.Core.Path.{◌≡◌, refl, sym, ◌∙◌}
use mathlib.Core.Bool.{Bool, true, false}
use mathlib.Core.List.{List}
use borrow.Author.Tests.{eq-eqb, ne_eqb}
use lib.Dec.{eqb}
use lib.ListN.{get_or}
use Rattle.mdp.specs.Sums.{greatest, rounded_up}
use Rattle.mdp.specs.Graph.{along}
use Rattle.folder.specs.Pick.{pick}
use Rattle.folder.specs.Contents.{field}
use Rattle.folder.proofs.PickLaws.{pick_all}
use Rattle.model.specs.Model.{Model, model_of}
use Rattle.model.specs.Chances.{mdp}
use Rattle.graph.specs.Limits.{units}
use Rattle.graph.specs.Simulation.{Simulation, simulation_of, graph}
use Rattle.graph.specs.Valid.{Valid}
use Rattle.graph.specs.Walks.{starts_at}
use Rattle.sums.specs.Edges.{best_of}
use Rattle.sums.specs.Tables.{Tables, Round}
use Rattle.sums.proofs.EdgeLaws.{up_small}
use Rattle.sums.proofs.ModelLaws.{best-is, best-small}
use Rattle.sums.proofs.NodeLaws.{Parts, some-total}
use Rattle.building.specs.Values.{least_value}

at-pick : (v : ℕ → ℕ) (b : Bool) (x y : ℕ) → pick b (v x) (v y) ≡ v (pick b x y)
at-pick v true x y = refl
at-pick v false x y = refl

-- Whose value a node takes, unless it is expanded.
abbrev pub source : Simulation → ℕ → ℕ
source G n = pick (eqb (G.kind n) 2) (G.cover n) n

pub least-is : (M : Model) (G : Simulation) (v : ℕ → ℕ) (n : ℕ)
    → least_value M G v n ≡ pick (eqb (G.kind n) 1) (rounded_up (greatest (G.edges n) (λ e _. along (mdp M) (graph G) v n e)) M.total) (v (source G n))
unfolding least_value
least-is M G v n = rw (at-pick v (eqb (G.kind n) 2) (G.cover n) n) refl

module _ {m g : List ℕ} (A : Valid m g) where
  abbrev M : Model
  M = model_of m

  abbrev G : Simulation
  G = simulation_of M g

  pub source_in : (n : ℕ) → n < G.nodes → source G n < G.nodes
  source_in n l = go (ℕ_discrete (G.kind n) 2)
    where
      go : Dec (G.kind n ≡ 2) → source G n < G.nodes
      go (yes e) = rw (eq-eqb (G.kind n) 2 e) (A.rules.c3 n l e).0
      go (no h) = rw (ne_eqb (G.kind n) 2 h) l

  -- Values of at most certainty give one of at most certainty.
  pub least-small : (row : List ℕ) → Round G.nodes row → (n : ℕ) → n < G.nodes → least_value M G (λ k. get_or row k 0) n ≤ units
  least-small row R n l =
      rw (least-is M G (λ k. get_or row k 0) n)
      (pick_all (λ (x : ℕ). x ≤ units) (eqb (G.kind n) 1)
      (omega (arith, up_small M.total (greatest (G.edges n) (λ e _. along (mdp M) (graph G) (λ k. get_or row k 0) n e)) units (some-total A) (best-small m g A.model.model n (A.rows.content.edges n l) row R)))
      (R.small (source G n) (source_in n l)))

  module _ {size d : ℕ} {cs nb eb : List ℕ} (P : Parts m g size d cs nb eb) where
    pub from_in : {n kind cover from : ℕ} → n < G.nodes → kind ≡ field size nb n 0 → cover ≡ field size nb n 1 → from ≡ pick (eqb kind 2) cover n → from < G.nodes
    from_in {n} l k c s = rw (s, k, c, P.size_is, P.nodes) (source_in n l)

    module _ {weights firsts : List ℕ} (T : Tables M weights firsts) {n at count : ℕ} (l : n < G.nodes) (a : at ≡ starts_at M g n) (q : count ≡ field size nb n 4) where
      module _ (row : List ℕ) {best : ℕ} (b : best ≡ best_of cs eb weights firsts row at count) where
        pub node-value : {kind cover from x : ℕ} → kind ≡ field size nb n 0 → cover ≡ field size nb n 1 → from ≡ pick (eqb kind 2) cover n
            → x ≡ pick (eqb kind 1) (rounded_up best d) (get_or row from 0) → x ≡ least_value M G (λ k. get_or row k 0) n
        node-value k c s p =
            p ∙ rw (s, k, c, b, P.total, P.commands, P.edges, a, q, P.size_is, P.nodes, best-is m g A.model.model T n (A.rows.content.edges n l) row)
            (sym (least-is M G (λ k. get_or row k 0) n))
