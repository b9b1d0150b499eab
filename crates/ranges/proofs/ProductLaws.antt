-- One pass over the four end products gives what document 01 says: the smaller, and the larger, of several numbers do not depend on
-- how they are grouped.
-- Assumes nothing.
use Prim.Native.Nat.{ℕ, zero, suc, ◌+◌, ◌<◌, ◌≤◌}
use mathlib.Core.Path.{◌≡◌, refl, ap, ap₂, ◌∙◌}
use mathlib.Core.List.{List, [], ◌∷◌}
use native.Mathlib.Omega.{arith}
use lib.ListN.{length, get_or, take, drop}
use lib.IntN.{ℤ, pos, ◌*ℤ◌}
use mir.Syntax.{w64}
use mir.Val.{SFits, to_z, of_z}
use lib.Signed.{le_z}
use Rattle.folder.proofs.Decides.{both-and}
use Rattle.folder.proofs.PickLaws.{pick_all}
use Rattle.folder.specs.Tab.{tab}
use Rattle.whole.specs.Order.{min_z, max_z, eq_z}
use Rattle.folder.proofs.Signed.{back, back_fits}
use Rattle.whole.proofs.Fits.{mul-near}
use Rattle.whole.proofs.Order.{◌⊑◌, more-le, ⊑_trans, min-le-l, min-le-r, le-max-l, le-max-r, eq_z-is}
use Rattle.expressions.specs.Ranges.{span, product, hull}
use Rattle.expressions.specs.declared.Range.{Range}
use Rattle.ranges.specs.Settled.{Near}
use Rattle.ranges.specs.Products.{end_products, end_product, reach}

-- ---- grouping

⊑-antisym : {a b : ℤ} → a ⊑ b → b ⊑ a → a ≡ b
unfolding eq_z
⊑-antisym {a} {b} h l = eq_z-is a b (both-and (le_z a b) (le_z b a) (more-le a b h) (more-le b a l))

-- What is below two numbers is below the smaller, and what is above two above the larger.
below-min : {a b z : ℤ} → z ⊑ a → z ⊑ b → z ⊑ min_z a b
unfolding min_z
below-min {a} {b} {z} h l = pick_all (λ (w : ℤ). z ⊑ w) (le_z a b) h l

above-max : {a b z : ℤ} → a ⊑ z → b ⊑ z → max_z a b ⊑ z
unfolding max_z
above-max {a} {b} {z} h l = pick_all (λ (w : ℤ). w ⊑ z) (le_z a b) l h

min_assoc : (a b c : ℤ) → min_z (min_z a b) c ≡ min_z a (min_z b c)
min_assoc a b c =
    ⊑-antisym
    (below-min (⊑_trans (min-le-l (min_z a b) c) (min-le-l a b)) (below-min (⊑_trans (min-le-l (min_z a b) c) (min-le-r a b)) (min-le-r (min_z a b) c)))
    (below-min (below-min (min-le-l a (min_z b c)) (⊑_trans (min-le-r a (min_z b c)) (min-le-l b c))) (⊑_trans (min-le-r a (min_z b c)) (min-le-r b c)))

max_assoc : (a b c : ℤ) → max_z (max_z a b) c ≡ max_z a (max_z b c)
max_assoc a b c =
    ⊑-antisym
    (above-max (above-max (le-max-l a (max_z b c)) (⊑_trans (le-max-l b c) (le-max-r a (max_z b c)))) (⊑_trans (le-max-r b c) (le-max-r a (max_z b c))))
    (above-max (⊑_trans (le-max-l a b) (le-max-l (max_z a b) c)) (above-max (⊑_trans (le-max-r a b) (le-max-l (max_z a b) c)) (le-max-r (max_z a b) c)))

-- ---- the pass

-- Products of small ends fit 64 bits.
module _ (a b : Range) (near : Near a × Near b) where
  product-fits : (i : ℕ) → SFits w64 (end_product a b i)
  unfolding end_product
  product-fits zero = rw (back {z = a.low} (omega (arith, near.0.low)), back {z = b.low} (omega (arith, near.1.low))) at (mul-near a.low b.low near.0.low near.1.low)
  product-fits (suc zero) = rw (back {z = a.low} (omega (arith, near.0.low)), back {z = b.high} (omega (arith, near.1.high))) at (mul-near a.low b.high near.0.low near.1.high)
  product-fits (suc (suc zero)) = rw (back {z = a.high} (omega (arith, near.0.high)), back {z = b.low} (omega (arith, near.1.low))) at (mul-near a.high b.low near.0.high near.1.low)
  product-fits (suc (suc (suc i))) = rw (back {z = a.high} (omega (arith, near.0.high)), back {z = b.high} (omega (arith, near.1.high))) at (mul-near a.high b.high near.0.high near.1.high)

  pub product-back : (i : ℕ) {z : ℤ} → z ≡ end_product a b i → to_z w64 (of_z w64 z) ≡ end_product a b i
  product-back i e = ap (λ (z : ℤ). to_z w64 (of_z w64 z)) e ∙ back_fits (product-fits i)

-- The four, as a row: the first, and those after it.
module _ (a b : Range) where
  pub four : {p q r s : ℤ} → p ≡ a.low *ℤ b.low → q ≡ a.low *ℤ b.high → r ≡ a.high *ℤ b.low → s ≡ a.high *ℤ b.high
      → p ∷ q ∷ r ∷ s ∷ [] ≡ tab end_products (end_product a b)
  unfolding tab end_product
  four h k l m = rw (h, k, l, m) refl

  module _ {row : List ℤ} (e : row ≡ tab end_products (end_product a b)) where
    pub first-product : get_or row 0 (pos 0) ≡ end_product a b 0
    unfolding tab
    first-product = ap (λ (r : List ℤ). get_or r 0 (pos 0)) e

    pub three-more : length (take 3 (drop 1 row)) ≡ 3
    unfolding tab
    three-more = ap (λ (r : List ℤ). length (take 3 (drop 1 r))) e

    pub next-product : (k : ℕ) → k < 3 → get_or (take 3 (drop 1 row)) k (pos 0) ≡ end_product a b (k + 1)
    unfolding tab
    next-product zero l = ap (λ (r : List ℤ). get_or (take 3 (drop 1 r)) 0 (pos 0)) e
    next-product (suc zero) l = ap (λ (r : List ℤ). get_or (take 3 (drop 1 r)) 1 (pos 0)) e
    next-product (suc (suc zero)) l = ap (λ (r : List ℤ). get_or (take 3 (drop 1 r)) 2 (pos 0)) e
    next-product (suc (suc (suc k))) l = absurd (omega arith)

-- Both ends of the pass are document 01's.
pub reach-product : (a b : Range) → reach a b 3 ≡ product a b
unfolding reach end_product
reach-product a b =
    ap₂ span
    (min_assoc (min_z (end_product a b 0) (end_product a b 1)) (end_product a b 2) (end_product a b 3))
    (max_assoc (max_z (end_product a b 0) (end_product a b 1)) (end_product a b 2) (end_product a b 3))

-- r after i end products, of which the last is `last`.
pub record Reached (a b r : Range) (i : ℕ) : Type 0 where
  pub last : ℕ
  pub at : i ≡ suc last
  pub most : i ≤ end_products
  pub is : r ≡ reach a b last

module _ {a b : Range} where
  pub reach-start : {p : ℤ} → p ≡ end_product a b 0 → Reached a b (span p p) 1
  unfolding reach
  reach-start e = record { last = 0; at = refl; most = omega arith; is = ap₂ span e e }

  module _ {r : Range} {i : ℕ} (reached : Reached a b r i) where
    pub reach-next : {s : Range} {p : ℤ} → i < end_products → p ≡ end_product a b i → s ≡ hull r (span p p) → Reached a b s (i + 1)
    unfolding reach
    reach-next l e q =
        let p = e ∙ ap (end_product a b) reached.at in
        record { last = suc reached.last; at = omega (arith, reached.at); most = omega arith; is = q ∙ ap₂ hull reached.is (ap₂ span p p) }

    pub reach-over : end_products ≤ i → r ≡ product a b
    reach-over l = reached.is ∙ ap (reach a b) (omega (arith, reached.at, reached.most)) ∙ reach-product a b
