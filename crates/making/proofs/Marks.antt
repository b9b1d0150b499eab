-- Marks set in a row: those of the nodes that n covers, and at single places.
-- Assumes nothing.
use Prim.Native.Nat.{ℕ, ◌<◌, min}
use mathlib.Core.Path.{◌≡◌, refl, sym, ap, ◌∙◌}
use mathlib.Core.Bool.{Bool, true, false, ◌&&◌}
use mathlib.Core.List.{List}
use native.Mathlib.Decide.{dec_lt, ℕ_discrete}
use native.Mathlib.Omega.{arith}
use borrow.Author.Tests.{eq-eqb, ne_eqb}
use lib.Dec.{eqb}
use lib.ListN.{length, get_or, set, length-set}
use lib.Seq.{get_or-set_same, get_or-set_other}
use Rattle.folder.specs.Pick.{pick}
use Rattle.folder.specs.Contents.{field}
use Rattle.graph.specs.Simulation.{node_size}
use Rattle.held.specs.Held.{kind_field, cover_field}
use Rattle.put.specs.Put.{Changed}
use Rattle.making.specs.Marking.{is_under, mark_if, mark_under, MarkedReach}

-- ---- what the code reads of node i
pub under-is : (vars : ℕ) (nb : List ℕ) (n i : ℕ) {size kind cover : ℕ} → size ≡ node_size vars → kind ≡ field size nb i kind_field → cover ≡ field size nb i cover_field
    → (eqb kind 2 && eqb cover n) ≡ is_under vars nb n i
under-is vars nb n i p a b = λ j. eqb ((a ∙ ap (λ (s : ℕ). field s nb i kind_field) p) j) 2 && eqb ((b ∙ ap (λ (s : ℕ). field s nb i cover_field) p) j) n

pub mark-as : (vars : ℕ) (nb : List ℕ) (n i mark : ℕ) {t : Bool} {x : ℕ} → t ≡ is_under vars nb n i → x ≡ mark_if t mark → x ≡ mark_under vars nb n i mark
mark-as vars nb n i mark e q = q ∙ ap (λ (hit : Bool). mark_if hit mark) e

-- ---- a mark that is set
pub none-set : (row : List ℕ) (n k : ℕ) → n < length row → get_or (set row n 1) k 0 ≡ 0 → (get_or row k 0 ≡ 0) × (k ≡ n → ⊥)
none-set row n k l h = go (ℕ_discrete k n)
  where
    go : Dec (k ≡ n) → (get_or row k 0 ≡ 0) × (k ≡ n → ⊥)
    go (yes e) = absurd (let z : ◌≡◌ {A = ℕ} 1 0 = sym (ap (λ (j : ℕ). get_or (set row n 1) j 0) e ∙ get_or-set_same row n 1 0 l) ∙ h in omega arith)
    go (no d) = (sym (get_or-set_other row n k 1 0 d) ∙ h, d)

unmarked-if : (t : Bool) (x : ℕ) → mark_if t x ≡ 0 → (t ≡ false) × (x ≡ 0)
unmarked-if true x e = absurd (omega arith)
unmarked-if false x e = (refl, e)

-- ---- the node, its parent, and what it covers
pub reach-marked : (vars : ℕ) (nb : List ℕ) (n parent : ℕ) {end : ℕ} (old : List ℕ) {new : List ℕ} → n < length old → parent < length old → Changed 0 end (mark_under vars nb n) (set (set old n 1) parent 1) new → MarkedReach vars nb n parent end old new
reach-marked vars nb n parent {end} old {new} p q u = record {
  long = u.stays.long ∙ length-set (set old n 1) parent 1 ∙ length-set old n 1;
  unmarked = λ k e. go k e (dec_lt k end);
  same = λ k a b c. u.stays.past k c ∙ get_or-set_other (set old n 1) parent k 1 0 b ∙ get_or-set_other old n k 1 0 a;
}
  where
    two : (k : ℕ) → get_or (set (set old n 1) parent 1) k 0 ≡ 0 → (get_or old k 0 ≡ 0) × (k ≡ n → ⊥) × (k ≡ parent → ⊥)
    two k e =
        let a = none-set (set old n 1) parent k (omega (arith, length-set old n 1)) e in
        let b = none-set old n k p a.0 in
        (b.0, b.1, a.1)

    go : (k : ℕ) → get_or new k 0 ≡ 0 → Dec (k < end) → (get_or old k 0 ≡ 0) × (k ≡ n → ⊥) × (k ≡ parent → ⊥) × (k < end → is_under vars nb n k ≡ false)
    go k e (yes l) =
        let a = unmarked-if (is_under vars nb n k) _ (sym (u.is k (omega arith) l) ∙ e) in
        let b = two k a.1 in
        (b.0, b.1, b.2, λ h. a.0)
    go k e (no d) =
        let b = two k (sym (u.stays.past k (omega arith)) ∙ e) in
        (b.0, b.1, b.2, λ h. absurd (d h))

pub reach-as : {vars vars' n parent parent' end end' : ℕ} {nb old new : List ℕ} → vars ≡ vars' → parent ≡ parent' → end ≡ end' → MarkedReach vars nb n parent end old new → MarkedReach vars' nb n parent' end' old new
reach-as p q e h = rw (p, q, e) at h

-- ---- where the marks begin: at the lower of the two, if nothing is covered by n
module _ {end end' : ℕ} (e : end ≡ end') where
  pub low-alone : (n : ℕ) {parent parent' low least : ℕ} → end ≡ 0 → parent ≡ parent' → least ≡ min n parent → low ≡ least → low ≡ pick (eqb end' 0) (min n parent') 0
  low-alone n z p l q = rw (eq-eqb end' 0 (sym e ∙ z)) (q ∙ l ∙ ap (min n) p)

  pub low-all : (x : ℕ) {low : ℕ} → (end ≡ 0 → ⊥) → low ≡ 0 → low ≡ pick (eqb end' 0) x 0
  low-all x d q = rw (ne_eqb end' 0 (λ z. d (e ∙ z))) q
