-- What the listing and the slots of an accepted graph are, in words.
-- Assumes nothing.
use Prim.Native.Nat.{ℕ, ◌<◌}
use mathlib.Core.Path.{◌≡◌, refl, sym, ◌∙◌}
use mathlib.Core.Bool.{Bool, true, false, not, ◌&&◌, false≢true}
use mathlib.Core.Logic.{◌⊎◌, inl, inr, ◌↔◌}
use mathlib.Core.List.{List}
use native.Mathlib.Nat.{eq-or-lt_of_le}
use borrow.Author.Tests.{eq-eqb, not-true, not-false}
use native.Mathlib.Omega.{arith}
use lib.ListN.{get_or}
use lib.IntN.{ℤ}
use Rattle.folder.specs.Scan.{first_bad}
use Rattle.folder.proofs.Decides.{and_both, both-and}
use Rattle.folder.proofs.ScanLaws.{found, all_true}
use Rattle.model.specs.Model.{model_of}
use Rattle.graph.specs.Limits.{slot_count}
use Rattle.graph.specs.Simulation.{node_count, simulation_of}
use Rattle.graph.specs.Labels.{concrete_state}
use Rattle.graph.specs.Valid.{Valid}
use Rattle.slots.specs.Slots.{no_node, same_state, lowest, stop_at}
use Rattle.slots.proofs.Probing.{finds}
use Rattle.slots.proofs.Rounds.{same-states}
use Rattle.index.specs.Twins.{unseen, is_listed}
use Rattle.index.specs.Index.{index_slots}

module _ (label : ℕ → List ℤ) (uncovered : ℕ → Bool) where
  -- An uncovered node below n has the label of node n.
  pub record Twin (n : ℕ) : Type 0 where
    pub at : ℕ
    pub lower : at < n
    pub free : uncovered at ≡ true
    pub same : label at ≡ label n

  twin-of : (n : ℕ) → unseen label uncovered n (label n) ≡ false → Twin n
  unfolding unseen
  twin-of n e = go (eq-or-lt_of_le (found ok n).within)
    where
      ok : ℕ → Bool
      ok i = not (uncovered i && same_state (label i) (label n))

      go : (first_bad ok n ≡ n) ⊎ (first_bad ok n < n) → Twin n
      go (inl q) = absurd (false≢true (sym e ∙ eq-eqb _ _ q))
      go (inr l) =
          let h = and_both (uncovered (first_bad ok n)) (same_state (label (first_bad ok n)) (label n)) (not-false _ ((found ok n).broken l)) in
          record { at = first_bad ok n; lower = l; free = h.0; same = (same-states _ (label n)).yes h.1 }

  no-twin : (n : ℕ) → unseen label uncovered n (label n) ≡ true → Twin n → ⊥
  unfolding unseen
  no-twin n e t =
      let h = all_true (λ i. not (uncovered i && same_state (label i) (label n))) n e t.at t.lower in
      false≢true (sym (not-true _ h) ∙ both-and _ _ t.free ((same-states _ (label n)).no t.same))

  -- Node n is listed if and only if it is uncovered and has such a twin.
  pub listed-says : (n : ℕ) → (is_listed label uncovered n ≡ true) ↔ ((uncovered n ≡ true) × Twin n)
  unfolding is_listed
  listed-says n = (
    (λ e. let h = and_both (uncovered n) (not (unseen label uncovered n (label n))) e in (h.0, twin-of n (not-true _ h.1))),
    λ h. both-and _ _ h.0 (go (unseen label uncovered n (label n)) refl h.1),
  )
    where
      go : (t : Bool) → unseen label uncovered n (label n) ≡ t → Twin n → not t ≡ true
      go true e w = absurd (no-twin n e w)
      go false e w = refl

-- ---- of a graph that is accepted, the slots find for any state the lowest node with that concrete label, or none
pub slots-find : {m g : List ℕ} → Valid m g → (x : List ℤ) → let M = model_of m in let G = simulation_of M g in
    get_or (index_slots M G) (stop_at (concrete_state M G) slot_count (index_slots M G) x) no_node ≡ lowest (concrete_state M G) G.nodes x
slots-find {m} {g} A x =
    finds slot_count (concrete_state (model_of m) (simulation_of (model_of m) g)) (omega arith) (node_count (model_of m) g) (omega (arith, A.rows.folder.few)) (omega (arith, A.rows.folder.few)) refl x
