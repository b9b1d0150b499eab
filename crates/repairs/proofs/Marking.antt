-- The loop that marks nodes as read.
-- Assumes nothing.
use Prim.Native.Nat.{ℕ, ◌+◌, ◌*◌, ◌<◌, ◌≤◌}
use mathlib.Core.Path.{◌≡◌, refl, sym, ◌∙◌, subst}
use mathlib.Core.List.{List}
use native.Mathlib.Nat.{mul-suc, mul-le-mul_left}
use native.Mathlib.Decide.{dec_lt}
use native.Mathlib.Omega.{arith}
use lib.ListN.{length}
use Rattle.folder.specs.Fields.{field_limit}
use Rattle.folder.specs.Contents.{field}
use Rattle.graph.specs.Simulation.{node_size}
use Rattle.put.proofs.PutLaws.{stays-none, stays_then, stays-wider}
use Rattle.held.specs.Held.{read_field, tracked_field, put_in, Whole}
use Rattle.held.proofs.FieldLaws.{whole-at, put-here, put-there, put-within}
use Rattle.wants.specs.Wants.{IsRead}
use Rattle.repairs.specs.Marked.{AllMarked}

pub mark-start : (vars from : ℕ) (nb : List ℕ) → AllMarked vars from from nb nb
mark-start vars from nb = record {
  stays = stays-none (node_size vars * from) (node_size vars * from) nb;
  inside = λ x a b. absurd (omega arith);
  others = λ x f l d. refl;
  later = λ x l. refl;
}

module _ (vars from i : ℕ) {old now : List ℕ} (s : AllMarked vars from i old now) where
  -- The record of the node that is next is there.
  pub whole-still : (end : ℕ) → i < end → node_size vars * end ≤ length old → Whole vars now i
  whole-still end l h = whole-at vars now i end l (omega (arith, s.stays.long))

  module _ (started : from ≤ i) {u : ℕ} (e : u ≡ field (node_size vars) now i tracked_field) (l : u < field_limit) (w : Whole vars now i) where
    abbrev new : List ℕ
    new = put_in vars now i read_field u

    marked-at : (x : ℕ) → from ≤ x → x < i + 1 → Dec (x < i) → field (node_size vars) new x read_field ≡ field (node_size vars) old x tracked_field
    marked-at x a b (yes h) = put-there vars now i read_field u (omega arith) x read_field (omega arith) (λ p q. omega arith) ∙ s.inside x a h
    marked-at x a b (no h) =
        let p : i ≡ x = omega arith in
        subst (λ (k : ℕ). field (node_size vars) new k read_field ≡ field (node_size vars) old k tracked_field) p
        (put-here vars now i read_field u (omega arith) w l ∙ e ∙ s.others i tracked_field (omega arith) (λ q. absurd (omega arith)))

    pub mark-next : {nb : List ℕ} → nb ≡ new → AllMarked vars from (i + 1) old nb
    mark-next q = rw q (record {
      stays =
          let z : node_size vars * i + node_size vars ≡ node_size vars * (i + 1) = omega (arith, mul-suc (node_size vars) i) in
          stays_then (mul-le-mul_left (node_size vars) started) (omega arith) s.stays (rw z at (put-within vars now i read_field u (omega arith)));
      inside = λ x a b. marked-at x a b (dec_lt x i);
      others = λ x f b d. put-there vars now i read_field u (omega arith) x f b (λ p r. let h = d r in omega arith) ∙ s.others x f b d;
      later = λ x b. put-there vars now i read_field u (omega arith) x read_field (omega arith) (λ p r. omega arith) ∙ s.later x (omega arith);
    })

-- Nodes that are read already are passed.
pub mark-skip : (vars from : ℕ) {i j : ℕ} {old now : List ℕ} → AllMarked vars from i old now → i ≤ j → from ≤ i → ((k : ℕ) → i ≤ k → k < j → IsRead vars now (0 + k)) → AllMarked vars from j old now
mark-skip vars from {i = i} {j = j} {old = old} {now = now} s l started h = record {
  stays = stays-wider (mul-le-mul_left (node_size vars) l) s.stays;
  inside = λ x a b. either x a b (dec_lt x i);
  others = s.others;
  later = λ x b. s.later x (omega arith);
}
  where
    either : (x : ℕ) → from ≤ x → x < j → Dec (x < i) → field (node_size vars) now x read_field ≡ field (node_size vars) old x tracked_field
    either x a b (yes p) = s.inside x a p
    either x a b (no p) = (let z : 0 + x ≡ x = omega arith in sym (rw z at (h x (omega arith) b))) ∙ s.others x tracked_field (omega arith) (λ q. absurd (omega arith))

pub mark-over : (vars from : ℕ) {i end : ℕ} {old new : List ℕ} → AllMarked vars from i old new → i ≤ end → end ≤ i → AllMarked vars from end old new
mark-over vars from {i = i} {end = end} {old = old} {new = new} s p q =
    let e : i ≡ end = omega arith in
    subst (λ (k : ℕ). AllMarked vars from k old new) e s
