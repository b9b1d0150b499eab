-- A round in place: what the row holds when the nodes below n are set, and whether any value has changed.
-- Assumes nothing.
use Prim.Native.Nat.{ℕ, zero, suc, ◌+◌, ◌≤◌, ◌<◌, zero-le}
use native.Mathlib.Decide.{ℕ_discrete, dec_lt}
use native.Mathlib.Numerals.{add-one}
use native.Mathlib.Omega.{arith}
use mathlib.Core.Path.{◌≡◌, refl, sym, ◌∙◌}
use mathlib.Core.Bool.{Bool, true, ◌&&◌}
use mathlib.Core.List.{List}
use lib.Dec.{eqb}
use lib.ListN.{length, get_or, set, length-set}
use lib.Seq.{get_or-set_same, get_or-set_other, ext_get_or}
use Rattle.folder.proofs.FillLaws.{length-fill, get_or-filled, get_or-kept}
use Rattle.model.specs.Model.{Model, model_of}
use Rattle.graph.specs.Limits.{units, most_nodes}
use Rattle.graph.specs.Simulation.{Simulation, simulation_of}
use Rattle.graph.specs.Valid.{Valid}
use Rattle.sums.specs.Tables.{Round}
use Rattle.building.specs.First.{put}
use Rattle.building.specs.Values.{least_value, swept}
use Rattle.building.proofs.FirstLaws.{put-at, put_other, put_all}
use Rattle.lowering.specs.Sweeps.{unchanged, nodes_of, swept_row, still_row}
use Rattle.lowering.proofs.NodeLaws.{least-small}

-- An element written is the function's value changed.
set-put : (row : List ℕ) (n x : ℕ) (f : ℕ → ℕ) → n < length row → ((k : ℕ) → get_or row k 0 ≡ f k) → (k : ℕ) → get_or (set row n x) k 0 ≡ put n x f k
set-put row n x f l h k = go (ℕ_discrete k n)
  where
    go : Dec (k ≡ n) → get_or (set row n x) k 0 ≡ put n x f k
    go (yes e) = rw e (get_or-set_same row n x 0 l) ∙ sym (put-at n x f k e)
    go (no d) = get_or-set_other row n k x 0 d ∙ h k ∙ sym (put_other n x f k d)

module _ (M : Model) (G : Simulation) (v : ℕ → ℕ) where
  -- The nodes from n on are as they were.
  swept-ahead : (n k : ℕ) → n ≤ k → swept M G v n k ≡ v k
  unfolding swept
  swept-ahead zero k l = refl
  swept-ahead (suc n) k l = put_other n (least_value M G (swept M G v n) n) (swept M G v n) k (λ e. omega arith) ∙ swept-ahead n k (omega arith)

-- Of a round from the row r: the nodes below n are set.
pub record Sweeping (m g r row : List ℕ) (n : ℕ) (same : Bool) : Type 0 where
  pub within : n ≤ nodes_of m g
  pub few : nodes_of m g ≤ most_nodes
  pub long : length row ≡ length r
  pub round : Round (nodes_of m g) row
  pub holds : (k : ℕ) → get_or row k 0 ≡ swept (model_of m) (simulation_of (model_of m) g) (λ i. get_or r i 0) n k
  pub still : same ≡ unchanged (model_of m) (simulation_of (model_of m) g) (λ i. get_or r i 0) n

pub sweep-start : {m g : List ℕ} → Valid m g → {r : List ℕ} → Round (nodes_of m g) r → Sweeping m g r r 0 true
unfolding swept unchanged
sweep-start A R = record { within = zero-le; few = A.rows.folder.few; long = refl; round = R; holds = λ k. refl; still = refl }

module _ {m g : List ℕ} (A : Valid m g) {r row : List ℕ} {n : ℕ} {same : Bool} (s : Sweeping m g r row n same) where
  abbrev M : Model
  M = model_of m

  abbrev G : Simulation
  G = simulation_of M g

  holds-all : (λ k. get_or row k 0) ≡ swept M G (λ i. get_or r i 0) n
  holds-all t k = s.holds k t

  module _ {x : ℕ} {t : Bool} (l : n < nodes_of m g) (e : x ≡ least_value M G (λ k. get_or row k 0) n) (q : t ≡ (same && eqb (get_or row n 0) x)) where
    small-next : (k : ℕ) → k < nodes_of m g → get_or (set row n x) k 0 ≤ units
    small-next k h =
        rw (set-put row n x (λ i. get_or row i 0) (omega (arith, s.round.long)) (λ i. refl) k)
        (put_all (λ _ (y : ℕ). y ≤ units) n x (λ i. get_or row i 0) k (λ _. rw e (least-small A row s.round n l)) (λ _. s.round.small k h))

    holds-next : (k : ℕ) → get_or (set row n x) k 0 ≡ swept M G (λ i. get_or r i 0) (n + 1) k
    unfolding swept
    holds-next k = rw (add-one, ← holds-all, ← e) (set-put row n x (λ i. get_or row i 0) (omega (arith, s.round.long)) (λ i. refl) k)

    still-next : t ≡ unchanged M G (λ i. get_or r i 0) (n + 1)
    unfolding unchanged
    still-next = q ∙ rw (add-one, ← holds-all, ← e, s.still) refl

    pub sweep-next : Sweeping m g r (set row n x) (n + 1) t
    sweep-next = record {
      within = omega arith;
      few = s.few;
      long = length-set row n x ∙ s.long;
      round = record { long = omega (arith, length-set row n x, s.round.long); small = small-next };
      holds = holds-next;
      still = still-next;
    }

  module _ {nodes : ℕ} (e : nodes ≡ nodes_of m g) (l : nodes ≤ n) where
    over : n ≡ nodes_of m g
    over = omega (arith, s.within)

    pub still-over : same ≡ still_row m g r
    still-over = s.still ∙ rw over refl

    pub sweep-over : row ≡ swept_row m g r
    sweep-over = ext_get_or 0 row (swept_row m g r) (s.long ∙ sym (length-fill (nodes_of m g) _ r (omega (arith, s.long, s.round.long)))) (λ k _. go k (dec_lt k (nodes_of m g)))
      where
        go : (k : ℕ) → Dec (k < nodes_of m g) → get_or row k 0 ≡ get_or (swept_row m g r) k 0
        go k (yes h) = s.holds k ∙ rw over (sym (get_or-filled 0 (nodes_of m g) (swept M G (λ i. get_or r i 0) (nodes_of m g)) r k h))
        go k (no h) = s.holds k ∙ swept-ahead M G (λ i. get_or r i 0) n k (omega arith) ∙ sym (get_or-kept 0 (nodes_of m g) (swept M G (λ i. get_or r i 0) (nodes_of m g)) r k (omega arith))
