-- The loop that lowers all hints.
-- Assumes nothing.
use Prim.Native.Nat.{ℕ, ◌+◌, ◌*◌, ◌<◌, ◌≤◌}
use mathlib.Core.Path.{◌≡◌, refl, ap, ◌∙◌, subst}
use mathlib.Core.Bool.{◌&&◌}
use mathlib.Core.List.{List}
use native.Mathlib.Nat.{mul-suc}
use native.Mathlib.Decide.{dec_lt}
use native.Mathlib.Omega.{arith}
use lib.Dec.{ltb, eqb}
use lib.ListN.{length}
use Rattle.folder.specs.Pick.{pick, implies}
use Rattle.folder.specs.Fields.{field_limit, signed16}
use Rattle.folder.proofs.ScanLaws.{first-same}
use Rattle.whole.specs.Order.{eq_z}
use Rattle.expressions.specs.Reading.{has_bit}
use Rattle.graph.specs.Simulation.{node_size}
use Rattle.put.proofs.PutLaws.{stays-none, stays_then}
use Rattle.held.specs.Held.{tracked_field, state_field, field_count, put_in, Whole}
use Rattle.held.proofs.FieldLaws.{whole-at, put-here, put-there, put-within}
use Rattle.covers.specs.Covers.{at, same_at, agrees_in, hint_at, lowered_hint, Lowered}

-- Node k's label and node n's state are in fields that stay, and so is whether they agree.
pub agrees-same : (vars : ℕ) (old new : List ℕ) (k n : ℕ) → ((i f : ℕ) → f < field_count vars → (f ≡ state_field + vars → ⊥) → at vars new i f ≡ at vars old i f) → agrees_in vars new k n ≡ agrees_in vars old k n
unfolding agrees_in
agrees-same vars old new k n h = ap (λ (r : ℕ). eqb r vars) (first-same (same_at vars new k n) (same_at vars old k n) vars same)
  where
    same : (v : ℕ) → v < vars → same_at vars new k n v ≡ same_at vars old k n v
    same v l i = implies (has_bit (h k tracked_field (omega arith) (λ e. omega arith) i) v) (eq_z (signed16 (h k (state_field + v) (omega arith) (λ e. omega arith) i)) (signed16 (h n (state_field + v) (omega arith) (λ e. omega arith) i)))

pub lower-start : (vars n : ℕ) (nb : List ℕ) → Lowered vars n 0 nb nb
lower-start vars n nb = record { stays = stays-none 0 (node_size vars * 0) nb; hints = λ k l. absurd (omega arith); later = λ k l. refl; others = λ k f l d. refl }

module _ (vars n i : ℕ) {old now : List ℕ} (s : Lowered vars n i old now) where
  lowered-same : lowered_hint vars now n i ≡ lowered_hint vars old n i
  unfolding lowered_hint
  lowered-same j = pick (ltb n (s.later i (omega arith) j) && agrees-same vars old now n i s.others j) n (s.later i (omega arith) j)

  -- The record of the node that is next is there.
  pub whole-still : (nodes : ℕ) → i < nodes → node_size vars * nodes ≤ length old → Whole vars now i
  whole-still nodes l h = whole-at vars now i nodes l (omega (arith, s.stays.long))

  module _ (some : 0 < vars) {u : ℕ} (e : u ≡ lowered_hint vars now n i) (l : u < field_limit) (w : Whole vars now i) where
    abbrev new : List ℕ
    new = put_in vars now i (state_field + vars) u

    hint-at : (k : ℕ) → k < i + 1 → Dec (k < i) → hint_at vars new k ≡ lowered_hint vars old n k
    hint-at k b (yes h) = put-there vars now i (state_field + vars) u (omega arith) k (state_field + vars) (omega arith) (λ p q. omega arith) ∙ s.hints k h
    hint-at k b (no h) =
        let p : i ≡ k = omega arith in
        subst (λ (x : ℕ). hint_at vars new x ≡ lowered_hint vars old n x) p (put-here vars now i (state_field + vars) u (omega arith) w l ∙ e ∙ lowered-same)

    pub lower-next : {nb : List ℕ} → nb ≡ new → Lowered vars n (i + 1) old nb
    lower-next q = rw q (record {
      stays =
          let z : node_size vars * i + node_size vars ≡ node_size vars * (i + 1) = omega (arith, mul-suc (node_size vars) i) in
          stays_then (omega arith) (omega arith) s.stays (rw z at (put-within vars now i (state_field + vars) u (omega arith)));
      hints = λ k b. hint-at k b (dec_lt k i);
      later = λ k b. put-there vars now i (state_field + vars) u (omega arith) k (state_field + vars) (omega arith) (λ p r. omega arith) ∙ s.later k (omega arith);
      others = λ k f b d. put-there vars now i (state_field + vars) u (omega arith) k f b (λ p r. d r) ∙ s.others k f b d;
    })
