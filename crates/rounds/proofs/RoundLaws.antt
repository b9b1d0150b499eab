-- Laws of a round: figures by kind.
-- Assumes nothing.
use Prim.Native.Nat.{ℕ}
use native.Mathlib.Decide.{ℕ_discrete}
use borrow.Author.Tests.{ne_eqb}
use mathlib.Core.Path.{◌≡◌, refl}
use mathlib.Core.Bool.{Bool, true, false}
use mathlib.Core.List.{List}
use lib.Dec.{eqb}
use lib.ListN.{get_or}
use Rattle.mdp.specs.Sums.{greatest}
use Rattle.mdp.specs.Kinds.{waiting, expanded, covered, target}
use Rattle.mdp.specs.Graph.{along, start, again, shared, up}
use Rattle.folder.specs.Pick.{pick}
use Rattle.model.specs.Model.{Model}
use Rattle.model.specs.Chances.{mdp}
use Rattle.graph.specs.Limits.{units}
use Rattle.graph.specs.Simulation.{Simulation, graph, kind_of}
use Rattle.sums.specs.Tables.{figure_by}
use Rattle.rounds.specs.Rounds.{source, own_start, own_next}

module _ (M : Model) (G : Simulation) where
  start-by : (a b c : Bool)
      → start (mdp M) (graph G) units units (up (mdp M) (graph G) units) (pick a expanded (pick b covered (pick c target waiting))) ≡ pick a 0 (pick b 0 units)
  start-by true b c = refl
  start-by false true c = refl
  start-by false false true = refl
  start-by false false false = refl

  -- With no sums, and nothing to divide.
  pub own-start : (n : ℕ) → own_start M G n ≡ figure_by (G.kind n) 0 1
  unfolding own_start figure_by kind_of
  own-start n = start-by (eqb (G.kind n) 1) (eqb (G.kind n) 2) (eqb (G.kind n) 3)

  again_by : (last : ℕ → ℕ) (n : ℕ) (a b c : Bool)
      → again (mdp M) (graph G) units units (up (mdp M) (graph G) units) last (pick a expanded (pick b covered (pick c target waiting))) n
      ≡ pick a (up (mdp M) (graph G) units (greatest (G.edges n) (λ e _. along (mdp M) (graph G) last n e))) (pick b 0 units)
  again_by last n true b c = refl
  again_by last n false true c = refl
  again_by last n false false true = refl
  again_by last n false false false = refl

  pub own-next : (row : List ℕ) (n : ℕ)
      → own_next M G row n ≡ figure_by (G.kind n) (greatest (G.edges n) (λ e _. along (mdp M) (graph G) (λ k. get_or row k 0) n e)) M.total
  unfolding own_next figure_by kind_of
  own-next row n = again_by (λ k. get_or row k 0) n (eqb (G.kind n) 1) (eqb (G.kind n) 2) (eqb (G.kind n) 3)

  shared-open : (own : ℕ → ℕ) (n : ℕ) (a c : Bool)
      → shared (mdp M) (graph G) units units (up (mdp M) (graph G) units) own (pick a expanded (pick false covered (pick c target waiting))) n ≡ own n
  shared-open own n true c = refl
  shared-open own n false true = refl
  shared-open own n false false = refl

  -- A node holds what its source holds of its own.
  pub shared-source : (own : ℕ → ℕ) (n : ℕ)
      → shared (mdp M) (graph G) units units (up (mdp M) (graph G) units) own (kind_of (G.kind n)) n ≡ own (source G n)
  unfolding kind_of source
  shared-source own n = go (ℕ_discrete (G.kind n) 2)
    where
      go : Dec (G.kind n ≡ 2) → shared (mdp M) (graph G) units units (up (mdp M) (graph G) units) own (kind_of (G.kind n)) n ≡ own (source G n)
      go (yes e) = rw e refl
      go (no h) = rw (ne_eqb (G.kind n) 2 h) (shared-open own n (eqb (G.kind n) 1) (eqb (G.kind n) 3))
