-- The order on ℤ: a ⊑ b where b is a and a natural number more. Sums, differences, products, the smaller and the larger of two keep it.
-- Assumes nothing.
use Prim.Native.Nat.{ℕ, zero, suc, ◌+◌, ◌-◌, ◌<◌, ◌≤◌}
use mathlib.Core.Path.{◌≡◌, refl, sym, ap, ◌∙◌}
use mathlib.Core.Bool.{Bool, true, false, not, cond, false≢true}
use native.Mathlib.Nat.{le_trans, le-suc, le_of_lt, le_antisymm}
use native.Mathlib.Omega.{arith}
use borrow.Author.Tests.{lt-ltb, le-ltb, leb-true, leb-false, le-leb}
use lib.Dec.{ltb, leb, eqb}
use lib.IntN.{ℤ, pos, negsuc, neg_ℤ, sub_ℕ, ◌+ℤ◌, ◌-ℤ◌, ◌*ℤ◌, +ℤ_assoc, +ℤ_comm, +ℤ_idr, +ℤ_invl, neg_ℤ-+ℤ, *ℤ_comm, *ℤ-negsuc, suc_ℤ-*ℤ, zero-*ℤ}
use lib.Signed.{le_z, lt_z, mag, ◌≤ℤ◌}
use mir.Syntax.{w64}
use mir.Val.{SFits, to_z, of_z}
use Rattle.std.specs.Int.{int_min, int_max}
use Rattle.std.proofs.lemmas.Bool.Decides.{nat_tests}
use Rattle.folder.specs.Pick.{pick}
use Rattle.folder.proofs.PickLaws.{pick-by}
use Rattle.folder.proofs.Decides.{Decides, at_most_z, and_both, both-and, same}
use Rattle.folder.proofs.Signed.{back_fits}
use Rattle.whole.specs.Order.{min_z, max_z, eq_z}

infix 4 ◌⊑◌
pub record ◌⊑◌ (a b : ℤ) : Type 0 where
  pub more : ℕ
  pub is : b ≡ a +ℤ pos more

-- ---- from the tests

sub-whole : (m n : ℕ) → sub_ℕ (m + n) n ≡ pos m
sub-whole m n = rw (le-ltb (m + n) n (omega arith)) (ap pos (omega arith))

sub-less : (a b : ℕ) → b ≤ a → sub_ℕ (a - b) (suc a) ≡ negsuc b
sub-less a b h = rw (lt-ltb (a - b) (suc a) (omega arith)) (ap negsuc (omega arith))

pub le-more : (a b : ℤ) → le_z a b ≡ true → a ⊑ b
le-more (pos a) (pos b) e = let h : a ≤ b = leb-true a b e in record { more = b - a; is = ap pos (omega arith) }
le-more (pos a) (negsuc b) e = absurd (false≢true e)
le-more (negsuc a) (pos b) e = record { more = b + suc a; is = sym (sub-whole b (suc a)) }
le-more (negsuc a) (negsuc b) e = record { more = a - b; is = sym (sub-less a b (leb-true b a e)) }

gt-more : (a b : ℤ) → le_z a b ≡ false → b ⊑ a
gt-more (pos a) (pos b) e = let h : b < a = leb-false a b e in record { more = a - b; is = ap pos (omega arith) }
gt-more (pos a) (negsuc b) e = record { more = a + suc b; is = sym (sub-whole a (suc b)) }
gt-more (negsuc a) (pos b) e = absurd (false≢true (sym e))
gt-more (negsuc a) (negsuc b) e = let h : a < b = leb-false b a e in record { more = b - a; is = sym (sub-less b a (le_of_lt h)) }

-- ---- and to them

le-cond : (t : Bool) (n m p : ℕ) → m ≤ n → le_z (negsuc n) (cond t (negsuc m) (pos p)) ≡ true
le-cond true n m p h = le-leb m n h
le-cond false n m p h = refl

le-plus : (a : ℤ) (k : ℕ) → le_z a (a +ℤ pos k) ≡ true
le-plus (pos n) k = le-leb n (n + k) (omega arith)
le-plus (negsuc n) k = le-cond (ltb k (suc n)) n (suc n - suc k) (k - suc n) (omega arith)

pub more-le : (a b : ℤ) → a ⊑ b → le_z a b ≡ true
more-le a b h = rw h.is (le-plus a h.more)

pub to-⊑ : {a b : ℤ} → a ≤ℤ b → a ⊑ b
to-⊑ {a} {b} h = le-more a b ((at_most_z a b).no h)

pub from-⊑ : {a b : ℤ} → a ⊑ b → a ≤ℤ b
from-⊑ {a} {b} h = (at_most_z a b).yes (more-le a b h)

-- ---- laws

pub ⊑_refl : (a : ℤ) → a ⊑ a
⊑_refl a = record { more = 0; is = sym (+ℤ_idr a) }

pub ⊑_trans : {a b c : ℤ} → a ⊑ b → b ⊑ c → a ⊑ c
⊑_trans {a} h l = record {
  more = h.more + l.more;
  is = cc (+ℤ_assoc a (pos h.more) (pos l.more));
}

swap : (a b c d : ℤ) → (a +ℤ b) +ℤ (c +ℤ d) ≡ (a +ℤ c) +ℤ (b +ℤ d)
swap a b c d =
    cc (+ℤ_assoc a b (c +ℤ d), +ℤ_assoc b c d, +ℤ_comm b c, +ℤ_assoc c b d, +ℤ_assoc a c (b +ℤ d))

pub add-mono : {a b c d : ℤ} → a ⊑ b → c ⊑ d → a +ℤ c ⊑ b +ℤ d
add-mono {a} {b} {c} {d} h l = record {
  more = h.more + l.more;
  is = cc (swap a (pos h.more) c (pos l.more));
}

neg-anti : {a b : ℤ} → a ⊑ b → neg_ℤ b ⊑ neg_ℤ a
neg-anti {a} {b} h = record {
  more = h.more;
  is = cc (neg_ℤ-+ℤ a (pos h.more), +ℤ_assoc (neg_ℤ a) (neg_ℤ (pos h.more)) (pos h.more), +ℤ_invl (pos h.more), +ℤ_idr (neg_ℤ a));
}

pub sub-mono : {a b c d : ℤ} → a ⊑ b → c ⊑ d → a -ℤ d ⊑ b -ℤ c
sub-mono {c = c} {d = d} h l = add-mono {c = neg_ℤ d} {d = neg_ℤ c} h (neg-anti l)

-- A product by a natural number keeps the order; one by a negative number turns it round.
mul-pos : {a b : ℤ} (n : ℕ) → a ⊑ b → pos n *ℤ a ⊑ pos n *ℤ b
mul-pos {a} {b} zero h = rw (zero-*ℤ a, zero-*ℤ b) (⊑_refl (pos 0))
mul-pos {a} {b} (suc n) h = rw (suc_ℤ-*ℤ (pos n) a, suc_ℤ-*ℤ (pos n) b) (add-mono (mul-pos n h) h)

mul-keeps : {a b : ℤ} (n : ℕ) → a ⊑ b → a *ℤ pos n ⊑ b *ℤ pos n
mul-keeps {a} {b} n h = rw (*ℤ_comm a (pos n), *ℤ_comm b (pos n)) (mul-pos n h)

mul-turns : {a b : ℤ} (n : ℕ) → a ⊑ b → b *ℤ negsuc n ⊑ a *ℤ negsuc n
mul-turns {a} {b} n h = rw (*ℤ-negsuc b n, *ℤ-negsuc a n) (neg-anti (mul-keeps (suc n) h))

-- A product with one factor between two ends lies above what lies below both end products, and below what lies above them.
pub mul-above : (L l a h c : ℤ) → l ⊑ a → a ⊑ h → L ⊑ l *ℤ c → L ⊑ h *ℤ c → L ⊑ a *ℤ c
mul-above L l a h (pos n) p q u v = ⊑_trans u (mul-keeps n p)
mul-above L l a h (negsuc n) p q u v = ⊑_trans v (mul-turns n q)

pub mul-below : (U l a h c : ℤ) → l ⊑ a → a ⊑ h → l *ℤ c ⊑ U → h *ℤ c ⊑ U → a *ℤ c ⊑ U
mul-below U l a h (pos n) p q u v = ⊑_trans (mul-keeps n q) v
mul-below U l a h (negsuc n) p q u v = ⊑_trans (mul-turns n p) u

pub mul-above-r : (L l a h c : ℤ) → l ⊑ a → a ⊑ h → L ⊑ c *ℤ l → L ⊑ c *ℤ h → L ⊑ c *ℤ a
mul-above-r L l a h c p q u v = rw (*ℤ_comm c a) (mul-above L l a h c p q (rw (*ℤ_comm c l) at u) (rw (*ℤ_comm c h) at v))

pub mul-below-r : (U l a h c : ℤ) → l ⊑ a → a ⊑ h → c *ℤ l ⊑ U → c *ℤ h ⊑ U → c *ℤ a ⊑ U
mul-below-r U l a h c p q u v = rw (*ℤ_comm c a) (mul-below U l a h c p q (rw (*ℤ_comm c l) at u) (rw (*ℤ_comm c h) at v))

-- ---- the smaller and the larger of two

by_order : (P : ℤ → Type 0) (a b u v : ℤ) → (a ⊑ b → P u) → (b ⊑ a → P v) → P (pick (le_z a b) u v)
by_order P a b u v f g = pick-by P (le_z a b) (λ e. f (le-more a b e)) (λ e. g (gt-more a b e))

-- What holds of a where a is the smaller, and of b where b is, holds of the smaller.
min_ind : (P : ℤ → Type 0) (a b : ℤ) → (a ⊑ b → P a) → (b ⊑ a → P b) → P (min_z a b)
unfolding min_z
min_ind P a b f g = by_order P a b a b f g

max_ind : (P : ℤ → Type 0) (a b : ℤ) → (a ⊑ b → P b) → (b ⊑ a → P a) → P (max_z a b)
unfolding max_z
max_ind P a b f g = by_order P a b b a f g

pub min-le-l : (a b : ℤ) → min_z a b ⊑ a
min-le-l a b = min_ind (λ (z : ℤ). z ⊑ a) a b (λ h. ⊑_refl a) (λ h. h)

pub min-le-r : (a b : ℤ) → min_z a b ⊑ b
min-le-r a b = min_ind (λ (z : ℤ). z ⊑ b) a b (λ h. h) (λ h. ⊑_refl b)

pub le-max-l : (a b : ℤ) → a ⊑ max_z a b
le-max-l a b = max_ind (λ (z : ℤ). a ⊑ z) a b (λ h. h) (λ h. ⊑_refl a)

pub le-max-r : (a b : ℤ) → b ⊑ max_z a b
le-max-r a b = max_ind (λ (z : ℤ). b ⊑ z) a b (λ h. ⊑_refl b) (λ h. h)

pub min-mono : {a b c d : ℤ} → a ⊑ b → c ⊑ d → min_z a c ⊑ min_z b d
min-mono {a} {b} {c} {d} h l = min_ind (λ (z : ℤ). min_z a c ⊑ z) b d (λ w. ⊑_trans (min-le-l a c) h) (λ w. ⊑_trans (min-le-r a c) l)

pub max-mono : {a b c d : ℤ} → a ⊑ b → c ⊑ d → max_z a c ⊑ max_z b d
max-mono {a} {b} {c} {d} h l = max_ind (λ (z : ℤ). z ⊑ max_z b d) a c (λ w. ⊑_trans l (le-max-r b d)) (λ w. ⊑_trans h (le-max-l b d))

-- A number between −(m + 1) and m + 1.
pub within : (m : ℕ) (z : ℤ) → negsuc m ⊑ z → z ⊑ pos (suc m) → mag z ≤ suc m
within m (pos n) h l = leb-true n (suc m) (more-le (pos n) (pos (suc m)) l)
within m (negsuc n) h l = le_trans (leb-true n m (more-le (negsuc m) (negsuc n) h)) (le-suc m)

-- ---- equal numbers

pub eq_z-is : (a b : ℤ) → eq_z a b ≡ true → a ≡ b
unfolding eq_z
eq_z-is (pos a) (pos b) e = let h = and_both (leb a b) (leb b a) e in ap pos (le_antisymm (leb-true a b h.0) (leb-true b a h.1))
eq_z-is (pos a) (negsuc b) e = absurd (false≢true e)
eq_z-is (negsuc a) (pos b) e = absurd (false≢true e)
eq_z-is (negsuc a) (negsuc b) e = let h = and_both (leb b a) (leb a b) e in ap negsuc (le_antisymm (leb-true a b h.1) (leb-true b a h.0))

pub eq_z-refl : (a : ℤ) → eq_z a a ≡ true
unfolding eq_z
eq_z-refl a = let h : le_z a a ≡ true = more-le a a (⊑_refl a) in both-and (le_z a a) (le_z a a) h h

pub equal-decided : (a b : ℤ) → Decides (a ≡ b) (eq_z a b)
equal-decided a b = record { yes = eq_z-is a b; no = λ e. rw e (eq_z-refl b) }

-- ---- the code's tests: `==` compares the bits, and `min` and `max` ask which of two is less
same-test : {P : Type 0} (a b : Bool) → Decides P a → Decides P b → a ≡ b
same-test true b p q = sym (q.no (p.yes refl))
same-test false true p q = p.no (q.yes refl)
same-test false false p q = refl

pub equal-bits : (a b : ℤ) → SFits w64 a → SFits w64 b → eqb (of_z w64 a) (of_z w64 b) ≡ eq_z a b
equal-bits a b h l = same-test _ _ bits (equal-decided a b)
  where
    bits : Decides (a ≡ b) (eqb (of_z w64 a) (of_z w64 b))
    bits = record {
      yes = λ e. sym (back_fits h) ∙ ap (to_z w64) ((same (of_z w64 a) (of_z w64 b)).yes e) ∙ back_fits l;
      no = λ e. (same (of_z w64 a) (of_z w64 b)).no (ap (of_z w64) e);
    }

turned-below : (a b : ℕ) → ltb b a ≡ not (leb a b)
turned-below a b = grind (arith, nat_tests)

turned : (a b : ℤ) → lt_z b a ≡ not (le_z a b)
turned (pos a) (pos b) = turned-below a b
turned (pos a) (negsuc b) = refl
turned (negsuc a) (pos b) = refl
turned (negsuc a) (negsuc b) = turned-below b a

other-way : {A : Type 0} (t : Bool) (x y : A) → cond (not t) x y ≡ pick t y x
other-way true x y = refl
other-way false x y = refl

pub min-is : (a b : ℤ) → int_min a b ≡ min_z a b
unfolding min_z
min-is a b = rw (turned a b) (other-way (le_z a b) b a)

pub max-is : (a b : ℤ) → int_max a b ≡ max_z a b
unfolding max_z
max-is a b = rw (turned a b) (other-way (le_z a b) a b)
