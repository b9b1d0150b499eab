-- The facts of the loop that multiplies up the combinations, and stops past the limit.
-- Assumes nothing.
use Prim.Native.Nat.{ℕ, zero, suc, ◌+◌, ◌-◌, ◌*◌, ◌≤◌, ◌<◌}
use mathlib.Core.Path.{◌≡◌, refl, sym, ap, ap₂, ◌∙◌}
use native.Mathlib.Nat.{mul-le-mul_left, mul-one, zero-add, suc-add, le_refl}
use native.Mathlib.Numerals.{add-one}
use native.Mathlib.Omega.{arith}
use borrow.Author.Tests.{le-leb, lt-leb}
use Rattle.expressions.specs.Limits.{most_combinations}
use Rattle.expressions.specs.Combinations.{product_of}
use Rattle.choices.specs.Ranged.{capped}

-- One more factor, where each is at least 1.
product-grows : (f : ℕ → ℕ) → ((v : ℕ) → 0 < f v) → (k v : ℕ) → product_of v f ≤ product_of (k + v) f
unfolding product_of
product-grows f some zero v = rw (zero-add v) (le_refl (product_of v f))
product-grows f some (suc k) v =
    rw (suc-add k v) (omega (arith, product-grows f some k v, mul-le-mul_left (product_of (k + v) f) (some (k + v)), mul-one (product_of (k + v) f)))

-- p is the product of the first v factors of n, and not past the limit.
pub record Grown (f : ℕ → ℕ) (n p v : ℕ) : Type 0 where
  pub within : v ≤ n
  pub is : p ≡ product_of v f
  pub few : p ≤ most_combinations

pub grown-start : (f : ℕ → ℕ) (n : ℕ) → Grown f n 1 0
unfolding product_of
grown-start f n = record { within = omega arith; is = refl; few = omega arith }

module _ {f : ℕ → ℕ} {n p v : ℕ} (g : Grown f n p v) where
  next-is : {c : ℕ} → c ≡ f v → p * c ≡ product_of (suc v) f
  unfolding product_of
  next-is e = ap₂ (λ (a b : ℕ). a * b) g.is e

  pub grown-next : {c : ℕ} → v < n → c ≡ f v → p * c ≤ most_combinations → Grown f n (p * c) (v + 1)
  grown-next l e k = record { within = omega arith; is = rw (add-one v) (next-is e); few = k }

  -- Of r factors.
  pub grown-past : {c r : ℕ} → n ≡ r → ((i : ℕ) → 0 < f i) → v < n → c ≡ f v → most_combinations < p * c → suc most_combinations ≡ capped (product_of r f)
  grown-past {c} {r} w some l e k =
      let q : r ≡ (r - suc v) + suc v = omega arith in
      let h : product_of (suc v) f ≤ product_of r f = rw q (product-grows f some (r - suc v) (suc v)) in
      rw (lt-leb (product_of r f) most_combinations (omega (arith, next-is e, h))) refl

  pub grown-over : {r : ℕ} → n ≡ r → n ≤ v → p ≡ capped (product_of r f)
  grown-over {r} w l =
      let q : v ≡ r = omega (arith, g.within) in
      let h : product_of r f ≡ p = sym (g.is ∙ ap (λ (i : ℕ). product_of i f) q) in
      rw (h, le-leb p most_combinations g.few) refl
