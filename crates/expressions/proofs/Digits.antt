-- Numbers by digits of mixed radix: every choice of digits is some number below the product of the radices.
-- Assumes nothing.
use Prim.Native.Nat.{ℕ, zero, suc, ◌+◌, ◌*◌, ◌%◌, ◌-◌, ◌≤◌, ◌<◌}
use mathlib.Core.Path.{◌≡◌, refl, ap, ◌∙◌}
use native.Mathlib.Nat.{add-zero, zero-add, mul-one, mul_assoc, mul-le-mul_left, mul-le-mul, add-mul-div_left, div-eq_of_lt, add-mul-mod_self_left, mod-eq_of_lt, le_refl, le_trans, mul-suc}
use native.Mathlib.Omega.{arith}
use Rattle.expressions.specs.Combinations.{product_of, left_of}

module _ (f : ℕ → ℕ) (some : (v : ℕ) → 0 < f v) where
  pub product_of-some : (n : ℕ) → 0 < product_of n f
  unfolding product_of
  product_of-some zero = omega arith
  product_of-some (suc n) = omega (arith, mul-le-mul {n₁ = 1} {m₁ = 1} (product_of-some n) (some n))

  -- d has the digits; the number of the k digits from v on.
  module _ (d : ℕ → ℕ) (below : (v : ℕ) → d v < f v) where
    unfoldable pub numbered : ℕ → ℕ → ℕ
    numbered zero v = 0
    numbered (suc k) v = d v + f v * numbered k (suc v)

    left-numbered : (v k : ℕ) → left_of f (numbered (k + v) 0) v ≡ numbered k v
    unfolding left_of numbered
    left-numbered zero k = rw (add-zero k) refl
    left-numbered (suc v) k =
        let e : k + suc v ≡ suc k + v = omega arith in
        let s : left_of f (numbered (k + suc v) 0) v ≡ numbered (suc k) v = ap (λ (n : ℕ). left_of f (numbered n 0) v) e ∙ left-numbered v (suc k) in
        rw (s, add-mul-div_left (d v) (numbered k (suc v)) {y = f v} (some v), div-eq_of_lt (below v)) (omega arith)

    pub digit-is : (n v : ℕ) → v < n → left_of f (numbered n 0) v % f v ≡ d v
    unfolding numbered
    digit-is n v h =
        let e : n ≡ suc (n - suc v) + v = omega arith in
        rw (e, left-numbered v (suc (n - suc v)), add-mul-mod_self_left (d v) (f v) (numbered (n - suc v) (suc v))) (mod-eq_of_lt (below v))

    numbered_below : (k v : ℕ) → product_of v f * suc (numbered k v) ≤ product_of (k + v) f
    unfolding numbered product_of
    numbered_below zero v = rw (zero-add v, mul-one (product_of v f)) (le_refl (product_of v f))
    numbered_below (suc k) v =
        let t : ℕ = numbered k (suc v) in
        let e : suc k + v ≡ k + suc v = omega arith in
        let u : suc (d v + f v * t) ≤ f v * suc t = omega (arith, below v, mul-suc (f v) t) in
        rw e (le_trans (mul-le-mul_left (product_of v f) u) (rw (← mul_assoc (product_of v f) (f v) (suc t)) (numbered_below k (suc v))))

    pub numbered-lt : (n : ℕ) → numbered n 0 < product_of n f
    unfolding product_of
    numbered-lt n = let h = numbered_below n 0 in let e : n + 0 ≡ n = add-zero n in omega (arith, rw e at h)
