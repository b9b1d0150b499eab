-- Rounds over two graphs that are the same give the same values, whatever values the graphs hold.
-- Assumes nothing.
use Prim.Native.Nat.{ℕ, zero, suc, ◌+◌, ◌*◌, ◌<◌, ◌≤◌}
use mathlib.Core.Path.{◌≡◌, refl, sym, ap, ◌∙◌}
use native.Mathlib.Nat.{le_refl}
use native.Mathlib.Decide.{ℕ_discrete}
use native.Mathlib.Omega.{arith}
use borrow.Author.Tests.{eq-eqb, ne_eqb}
use lib.Dec.{eqb}
use Rattle.mdp.specs.Sums.{sum, greatest, rounded_up}
use Rattle.mdp.specs.Graph.{along}
use Rattle.mdp.proofs.SumLaws.{sum-eq, greatest-eq}
use Rattle.folder.specs.Pick.{pick}
use Rattle.model.specs.Model.{Model, first_record}
use Rattle.model.specs.Chances.{mdp}
use Rattle.graph.specs.Simulation.{Simulation, graph}
use Rattle.building.specs.Values.{least_value, swept, rounds_of}
use Rattle.building.proofs.FirstLaws.{put-at, put_other, put_all}
use Rattle.lowering.proofs.NodeLaws.{source, least-is}

-- What a round looks at: the same in both, and covers and successors are there.
pub record Alike (M : Model) (G H : Simulation) : Type 0 where
  pub nodes : H.nodes ≡ G.nodes
  pub kind : (n : ℕ) → n < G.nodes → H.kind n ≡ G.kind n
  pub cover : (n : ℕ) → n < G.nodes → H.cover n ≡ G.cover n
  pub edges : (n : ℕ) → n < G.nodes → H.edges n ≡ G.edges n
  pub command : (n : ℕ) → n < G.nodes → (e : ℕ) → e < G.edges n → H.command n e ≡ G.command n e
  pub successor : (n : ℕ) → n < G.nodes → (e : ℕ) → e < G.edges n → (b : ℕ) → b < M.branches (G.command n e) → H.successor n e b ≡ G.successor n e b
  pub covers : (n : ℕ) → n < G.nodes → G.kind n ≡ 2 → G.cover n < G.nodes
  pub leads : (n : ℕ) → n < G.nodes → (e : ℕ) → e < G.edges n → (b : ℕ) → b < M.branches (G.command n e) → G.successor n e b < G.nodes

module _ (M : Model) (G H : Simulation) (S : Alike M G H) where
  abbrev Agree : (ℕ → ℕ) → (ℕ → ℕ) → Type 0
  Agree v w = (k : ℕ) → k < G.nodes → v k ≡ w k

  module _ (v w : ℕ → ℕ) (a : Agree v w) (n : ℕ) (l : n < G.nodes) where
    along-same : (e : ℕ) → e < G.edges n → along (mdp M) (graph H) v n e ≡ along (mdp M) (graph G) w n e
    along-same e h =
        ap (λ (c : ℕ). sum (M.branches c) (λ b _. M.weight (first_record M c + b) * v (H.successor n e b))) (S.command n l e h)
        ∙ sum-eq (M.branches (G.command n e)) _ _ (λ b q. ap (λ (x : ℕ). M.weight (first_record M (G.command n e) + b) * x)
        (ap v (S.successor n l e h b q) ∙ a (G.successor n e b) (S.leads n l e h b q)))

    best-same : greatest (H.edges n) (λ e _. along (mdp M) (graph H) v n e) ≡ greatest (G.edges n) (λ e _. along (mdp M) (graph G) w n e)
    best-same =
        ap (λ (k : ℕ). greatest k (λ e _. along (mdp M) (graph H) v n e)) (S.edges n l)
        ∙ greatest-eq (G.edges n) (λ e _. along (mdp M) (graph H) v n e) (λ e _. along (mdp M) (graph G) w n e) along-same

    source-same : source H n ≡ source G n
    source-same = λ i. pick (eqb (S.kind n l i) 2) (S.cover n l i) n

    source_in : source G n < G.nodes
    source_in = go (ℕ_discrete (G.kind n) 2)
      where
        go : Dec (G.kind n ≡ 2) → source G n < G.nodes
        go (yes e) = rw (eq-eqb (G.kind n) 2 e) (S.covers n l e)
        go (no h) = rw (ne_eqb (G.kind n) 2 h) l

    least-same : least_value M H v n ≡ least_value M G w n
    least-same =
        least-is M H v n
        ∙ (λ i. pick (eqb (S.kind n l i) 1) (rounded_up (best-same i) M.total) ((ap v source-same ∙ a (source G n) source_in) i))
        ∙ sym (least-is M G w n)

  swept_same : (v w : ℕ → ℕ) → Agree v w → (n : ℕ) → n ≤ G.nodes → Agree (swept M H v n) (swept M G w n)
  unfolding swept
  swept_same v w a zero l k h = a k h
  swept_same v w a (suc n) l k h =
      let q = swept_same v w a n (omega arith) in
      put_all (λ (j x : ℕ). j < G.nodes → x ≡ swept M G w (suc n) j) n (least_value M H (swept M H v n) n) (swept M H v n) k
      (λ i _. least-same (swept M H v n) (swept M G w n) q n l ∙ sym (put-at n (least_value M G (swept M G w n) n) (swept M G w n) k i))
      (λ d j. q k j ∙ sym (put_other n (least_value M G (swept M G w n) n) (swept M G w n) k d)) h

  pub rounds-same : (k n : ℕ) → n < G.nodes → rounds_of M H k n ≡ rounds_of M G k n
  unfolding rounds_of
  rounds-same zero n l = refl
  rounds-same (suc k) n l =
      ap (λ (j : ℕ). swept M H (rounds_of M H k) j n) S.nodes
      ∙ swept_same (rounds_of M H k) (rounds_of M G k) (rounds-same k) G.nodes (le_refl G.nodes) n l
