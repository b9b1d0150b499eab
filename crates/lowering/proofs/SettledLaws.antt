-- Rounds of a row: what it holds after each, and that once a round changes nothing no later one does.
-- Assumes nothing.
use Prim.Native.Nat.{ℕ, zero, suc, ◌+◌, ◌*◌, ◌≤◌, ◌<◌}
use native.Mathlib.Nat.{eq-or-lt_of_le, le_of_suc-le-suc, le_refl}
use native.Mathlib.Numerals.{add-one}
use native.Mathlib.Omega.{arith}
use mathlib.Core.Path.{◌≡◌, refl, sym, ap, ◌∙◌}
use mathlib.Core.Logic.{⊎_elim}
use mathlib.Core.Bool.{Bool, true}
use mathlib.Core.List.{List}
use borrow.Author.Tests.{eqb-true}
use lib.Dec.{eqb}
use lib.ListN.{length, get_or}
use Rattle.mdp.specs.Sums.{greatest, rounded_up}
use Rattle.mdp.specs.Graph.{along}
use Rattle.mdp.proofs.SumLaws.{sum-eq, greatest-eq}
use Rattle.folder.specs.Pick.{pick}
use Rattle.folder.specs.Tab.{fill}
use Rattle.folder.proofs.Decides.{and_both}
use Rattle.folder.proofs.FillLaws.{length-fill, get_or-filled, fill-same, fill-again}
use Rattle.model.specs.Model.{Model, model_of}
use Rattle.model.specs.Chances.{mdp}
use Rattle.graph.specs.Limits.{units}
use Rattle.graph.specs.Simulation.{Simulation, simulation_of, graph}
use Rattle.graph.specs.Valid.{Valid}
use Rattle.sums.specs.Tables.{Round}
use Rattle.building.specs.Values.{least_value, swept, rounds_of}
use Rattle.building.proofs.FirstLaws.{put-at, put_other, put_all}
use Rattle.building.proofs.ValueLaws.{rounds-le}
use Rattle.lowering.specs.Sweeps.{unchanged, nodes_of, swept_row, still_row}
use Rattle.lowering.proofs.NodeLaws.{source, least-is, source_in}

-- A round that changes nothing leaves every value.
unchanged-is : (M : Model) (G : Simulation) (v : ℕ → ℕ) (n : ℕ) → unchanged M G v n ≡ true → (k : ℕ) → swept M G v n k ≡ v k
unfolding swept unchanged
unchanged-is M G v zero e k = refl
unchanged-is M G v (suc n) e k =
    let h = and_both (unchanged M G v n) (eqb (swept M G v n n) (least_value M G (swept M G v n) n)) e in
    put_all (λ (j x : ℕ). x ≡ swept M G v n j) n (least_value M G (swept M G v n) n) (swept M G v n) k (λ q. sym (eqb-true _ _ h.1) ∙ ap (swept M G v n) (sym q)) (λ _. refl)
    ∙ unchanged-is M G v n h.0 k

module _ (m g : List ℕ) where
  -- The row r with round k.
  abbrev pub round_row : ℕ → List ℕ → List ℕ
  round_row k r = fill (nodes_of m g) (rounds_of (model_of m) (simulation_of (model_of m) g) k) r

  -- Round 0, of the row s.
  module _ (s : List ℕ) {nodes : ℕ} {r : List ℕ} (n : nodes ≡ nodes_of m g) (e : r ≡ fill nodes (λ _. units) s) where
    after-start : (k : ℕ) → round_row k r ≡ round_row k s
    after-start k = rw (e, n) (fill-again (nodes_of m g) (λ _. units) (rounds_of (model_of m) (simulation_of (model_of m) g) k) s)

    pub round-start : r ≡ round_row 0 r
    unfolding rounds_of
    round-start = e ∙ rw n refl ∙ sym (after-start 0)

    -- The rounds are over.
    pub round-over : {k h : ℕ} {row : List ℕ} → row ≡ round_row k r → k ≤ h → h ≤ k → row ≡ round_row h s
    round-over {k} {h} p a b = p ∙ after-start k ∙ ap (λ (j : ℕ). round_row j s) (omega arith)

module _ {m g : List ℕ} (A : Valid m g) where
  abbrev M : Model
  M = model_of m

  abbrev G : Simulation
  G = simulation_of M g

  abbrev Same : (ℕ → ℕ) → (ℕ → ℕ) → Type 0
  Same v w = (k : ℕ) → k < G.nodes → v k ≡ w k

  -- Values that agree on the nodes: a node is set to the same, and so is each in a round.
  least-same : (v w : ℕ → ℕ) → Same v w → (n : ℕ) → n < G.nodes → least_value M G v n ≡ least_value M G w n
  least-same v w e n l =
      least-is M G v n
      ∙ (λ t. pick (eqb (G.kind n) 1) (rounded_up (edges t) M.total) (e (source G n) (source_in A n l) t))
      ∙ sym (least-is M G w n)
    where
      edges : greatest (G.edges n) (λ j _. along (mdp M) (graph G) v n j) ≡ greatest (G.edges n) (λ j _. along (mdp M) (graph G) w n j)
      edges = greatest-eq (G.edges n) _ _ (λ j k. sum-eq _ _ _ (λ b h.
          ap (λ (x : ℕ). (mdp M).weight (G.command n j) b * x) (e (G.successor n j b) ((A.rows.content.edges n l j k).successors b h))))

  swept_same : (v w : ℕ → ℕ) → Same v w → (n : ℕ) → n ≤ G.nodes → Same (swept M G v n) (swept M G w n)
  unfolding swept
  swept_same v w e zero l k h = e k h
  swept_same v w e (suc n) l k h =
      let q = swept_same v w e n (omega arith) in
      put_all (λ (j x : ℕ). j < G.nodes → x ≡ swept M G w (suc n) j) n (least_value M G (swept M G v n) n) (swept M G v n) k
      (λ i _. least-same (swept M G v n) (swept M G w n) q n l ∙ sym (put-at n (least_value M G (swept M G w n) n) (swept M G w n) k i))
      (λ d j. q k j ∙ sym (put_other n (least_value M G (swept M G w n) n) (swept M G w n) k d)) h

  -- Once round k is the one after it too, it is every later one.
  settled : (k : ℕ) → Same (rounds_of M G (suc k)) (rounds_of M G k) → (h : ℕ) → k ≤ h → Same (rounds_of M G h) (rounds_of M G k)
  unfolding rounds_of
  settled k e zero l = let z : k ≡ 0 = omega arith in rw z (λ i _. refl)
  settled k e (suc h) l = ⊎_elim
      (λ q i _. ap (λ (j : ℕ). rounds_of M G j i) (sym q))
      (λ q i b. swept_same (rounds_of M G h) (rounds_of M G k) (settled k e h (le_of_suc-le-suc q)) G.nodes (le_refl G.nodes) i b ∙ e i b)
      (eq-or-lt_of_le l)

  holding : (k : ℕ) (r : List ℕ) → Same (λ i. get_or (round_row m g k r) i 0) (rounds_of M G k)
  holding k r i l = get_or-filled 0 (nodes_of m g) (rounds_of M G k) r i l

  module _ (k : ℕ) (r : List ℕ) {row : List ℕ} (e : row ≡ round_row m g k r) where
    pub round-long : nodes_of m g ≤ length r → length row ≡ length r
    round-long l = rw e (length-fill (nodes_of m g) (rounds_of M G k) r l)

    pub round-held : nodes_of m g ≤ length r → Round (nodes_of m g) row
    round-held l = record {
      long = omega (arith, round-long l);
      small = λ i b. rw (e, holding k r i b) (rounds-le M A.model.model G (λ n a j c. (A.rows.content.edges n a j c).command) k i);
    }

    swept-is : Same (swept M G (λ i. get_or row i 0) (nodes_of m g)) (rounds_of M G (suc k))
    unfolding rounds_of
    swept-is = rw e (swept_same (λ i. get_or (round_row m g k r) i 0) (rounds_of M G k) (holding k r) G.nodes (le_refl G.nodes))

    -- A round more.
    pub round-more : {next : List ℕ} → next ≡ swept_row m g row → next ≡ round_row m g (k + 1) r
    round-more q = q ∙ fill-same (nodes_of m g) _ (rounds_of M G (suc k)) row swept-is ∙ rw (e, add-one) (fill-again (nodes_of m g) (rounds_of M G k) (rounds_of M G (suc k)) r)

    still-same : still_row m g row ≡ true → Same (rounds_of M G (suc k)) (rounds_of M G k)
    still-same t i l = sym (swept-is i l) ∙ unchanged-is M G (λ j. get_or row j 0) (nodes_of m g) t i ∙ rw e (holding k r i l)

    -- A round that changed nothing: the row holds every later one.
    pub settled-row : {h : ℕ} {same : Bool} {next : List ℕ} → k < h → same ≡ still_row m g row → next ≡ swept_row m g row → same ≡ true → next ≡ round_row m g h r
    settled-row {h} l q p t =
        round-more p ∙ fill-same (nodes_of m g) (rounds_of M G (k + 1)) (rounds_of M G h) r
        (λ j b. rw add-one (still-same (sym q ∙ t) j b) ∙ sym (settled k (still-same (sym q ∙ t)) h (omega arith) j b))
