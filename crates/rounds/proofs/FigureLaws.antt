-- The figures of an accepted graph: each is at most certainty, the next ones follow from a row that holds the last, and
-- once two rounds in a row are equal all later ones are.
-- Assumes nothing.
use Prim.Native.Nat.{ℕ, zero, suc, ◌*◌, ◌≤◌, ◌<◌}
use native.Mathlib.Omega.{arith}
use mathlib.Core.Path.{◌≡◌, refl, sym, ap, ◌∙◌}
use mathlib.Core.List.{List, [], ◌++◌}
use mathlib.Core.Logic.{⊎_elim}
use native.Mathlib.Nat.{eq-or-lt_of_le, le_of_suc-le-suc}
use lib.Dec.{eqb}
use lib.ListN.{length, get_or, length-append, get_or-append}
use Rattle.mdp.specs.Kinds.{Kind, waiting, expanded, covered, target}
use Rattle.mdp.specs.Graph.{along, again, round, up, figure}
use Rattle.mdp.proofs.SumLaws.{sum-eq, greatest-eq}
use Rattle.folder.specs.Tab.{tab}
use Rattle.folder.proofs.PickLaws.{pick_all}
use Rattle.folder.proofs.TabLaws.{length-tab, get_or-tab, tab-same}
use Rattle.model.specs.Model.{Model, model_of}
use Rattle.model.specs.Chances.{mdp}
use Rattle.graph.specs.Limits.{units}
use Rattle.graph.specs.Simulation.{Simulation, graph, kind_of, simulation_of}
use Rattle.graph.specs.Figures.{figures}
use Rattle.graph.specs.Valid.{Valid}
use Rattle.sums.specs.Tables.{Round, figure_by}
use Rattle.rounds.specs.Rounds.{source, own_start, own_next, next_round}
use Rattle.rounds.proofs.RoundLaws.{own-start, own-next, shared-source}
use Rattle.sums.proofs.EdgeLaws.{up_small}
use Rattle.sums.proofs.ModelLaws.{best-small}
use Rattle.sums.proofs.NodeLaws.{some-total}
use Rattle.rounds.proofs.CoverLaws.{source_in}

figure-by-small : (kind best d : ℕ) → 0 < d → best ≤ d * units → figure_by kind best d ≤ units
unfolding figure_by
figure-by-small kind best d p l =
    pick_all (λ (x : ℕ). x ≤ units) (eqb kind 1) (omega (arith, up_small d best units p l)) (pick_all (λ (x : ℕ). x ≤ units) (eqb kind 2) (omega arith) (omega arith))

module _ {m g : List ℕ} (A : Valid m g) where
  abbrev M : Model
  M = model_of m

  abbrev G : Simulation
  G = simulation_of M g

  abbrev fig : ℕ → ℕ → ℕ
  fig k n = figure (mdp M) (graph G) units k n

  -- Values that agree on the nodes give a node the same figure.
  module _ (v w : ℕ → ℕ) (e : (n : ℕ) → n < G.nodes → v n ≡ w n) where
    along-same : (n : ℕ) → n < G.nodes → (j : ℕ) → j < G.edges n → along (mdp M) (graph G) v n j ≡ along (mdp M) (graph G) w n j
    along-same n l j k =
        sum-eq _ _ _ (λ b h. ap (λ (x : ℕ). (mdp M).weight (G.command n j) b * x) (e (G.successor n j b) ((A.rows.content.edges n l j k).successors b h)))

    again-same : (n : ℕ) → n < G.nodes → (κ : Kind)
        → again (mdp M) (graph G) units units (up (mdp M) (graph G) units) v κ n ≡ again (mdp M) (graph G) units units (up (mdp M) (graph G) units) w κ n
    again-same n l waiting = refl
    again-same n l expanded = ap (up (mdp M) (graph G) units) (greatest-eq (G.edges n) _ _ (along-same n l))
    again-same n l covered = refl
    again-same n l target = refl

  -- A row that holds round k gives the round after it.
  pub figure-next : (k : ℕ) (row : List ℕ) → ((n : ℕ) → n < G.nodes → get_or row n 0 ≡ fig k n) → (n : ℕ) → n < G.nodes → next_round M G row n ≡ fig (suc k) n
  unfolding next_round own_next round
  figure-next k row e n l =
      shared-source M G _ n ∙ again-same (λ j. get_or row j 0) (fig k) e (source G n) (source_in A n l) (kind_of (G.kind (source G n))) ∙ sym (shared-source M G _ n)

  pub figures-long : (k : ℕ) → length (figures M G k) ≡ G.nodes
  unfolding figures
  figures-long k = length-tab G.nodes (fig k)

  figures-hold : (k n : ℕ) → n < G.nodes → get_or (figures M G k) n 0 ≡ fig k n
  unfolding figures
  figures-hold k n l = get_or-tab 0 G.nodes (fig k) n l

  start_small : (n : ℕ) → fig 0 n ≤ units
  unfolding round own_start
  start_small n =
      rw (shared-source M G (own_start M G) n ∙ own-start M G (source G n)) (figure-by-small (G.kind (source G n)) 0 1 (omega arith) (omega arith))

  next_small : (row : List ℕ) → Round G.nodes row → (n : ℕ) → n < G.nodes → next_round M G row n ≤ units
  unfolding next_round
  next_small row R n l =
      rw (shared-source M G (own_next M G row) n ∙ own-next M G row (source G n))
      (figure-by-small (G.kind (source G n)) _ M.total (some-total A) (best-small m g A.model.model (source G n) (A.rows.content.edges (source G n) (source_in A n l)) row R))

  held_by : (k : ℕ) → ((n : ℕ) → n < G.nodes → fig k n ≤ units) → Round G.nodes (figures M G k)
  held_by k h = record { long = omega (arith, figures-long k); small = λ n l. rw (figures-hold k n l) (h n l) }

  -- No figure is more than certainty.
  pub figure-small : (k n : ℕ) → n < G.nodes → fig k n ≤ units
  figure-small zero n l = start_small n
  figure-small (suc k) n l =
      rw (sym (figure-next k (figures M G k) (figures-hold k) n l)) (next_small (figures M G k) (held_by k (figure-small k)) n l)

  -- A row that begins with round k holds it, and gives the next one.
  module _ (k : ℕ) (rest : List ℕ) where
    pub begins : (n : ℕ) → n < G.nodes → get_or (figures M G k ++ rest) n 0 ≡ fig k n
    begins n l = get_or-append (figures M G k) rest 0 n (rw (figures-long k) l) ∙ figures-hold k n l

    pub round-held : Round G.nodes (figures M G k ++ rest)
    round-held = record { long = rw (length-append, figures-long k) (omega arith); small = λ n l. rw (begins n l) (figure-small k n l) }

    pub figures-next : tab G.nodes (next_round M G (figures M G k ++ rest)) ≡ figures M G (suc k)
    unfolding figures
    figures-next = tab-same G.nodes _ _ (figure-next k (figures M G k ++ rest) begins)

  pub figures-same : (i j : ℕ) → ((n : ℕ) → n < G.nodes → fig i n ≡ fig j n) → figures M G i ≡ figures M G j
  unfolding figures
  figures-same i j e = tab-same G.nodes _ _ e

  -- Once round k is the one after it too, it is every later one.
  module _ (k : ℕ) (e : figures M G (suc k) ≡ figures M G k) where
    pub settled : (h : ℕ) → k ≤ h → figures M G h ≡ figures M G k
    settled zero l = ap (figures M G) (omega arith)
    settled (suc h) l = ⊎_elim
        (λ q. ap (figures M G) (sym q))
        (λ q. sym (figures-next h []) ∙ ap (λ (row : List ℕ). tab G.nodes (next_round M G (row ++ []))) (settled h (le_of_suc-le-suc q)) ∙ figures-next k [] ∙ e)
        (eq-or-lt_of_le l)
