-- The digits of a number and of the next: where a digit can go up it does, and what is left stays; where not, it goes back
-- to 0, and what is left goes up.
-- Assumes nothing.
use Prim.Native.Nat.{ℕ, zero, suc, ◌+◌, ◌*◌, ◌/◌, ◌%◌, ◌≤◌, ◌<◌}
use mathlib.Core.Path.{◌≡◌, refl, ap, ◌∙◌}
use native.Mathlib.Nat.{mod-add-div, mod-lt, mod-eq_of_lt, div-eq_of_lt, add-mul-div_left, add-mul-mod_self_left, mul-suc, zero-div, zero-add, suc-add}
use native.Mathlib.Omega.{arith}
use Rattle.expressions.specs.Combinations.{left_of}

module _ (q c : ℕ) (some : 0 < c) where
  -- q by its digit d and what is left of it.
  module _ (d k : ℕ) (l : d < c) (e : q ≡ d + c * k) where
    digit-of : q % c ≡ d
    digit-of = rw (e, add-mul-mod_self_left d c k) (mod-eq_of_lt l)

    left-of : q / c ≡ k
    left-of = rw (e, add-mul-div_left d k {y = c} some, div-eq_of_lt l) (zero-add k)

module _ (q c : ℕ) (some : 0 < c) where
  module _ (l : suc (q % c) < c) where
    up : suc q ≡ suc (q % c) + c * (q / c)
    up = omega (arith, mod-add-div q c)

    pub digit-up : suc q % c ≡ suc (q % c)
    digit-up = digit-of (suc q) c some (suc (q % c)) (q / c) l up

    pub left-stays : suc q / c ≡ q / c
    left-stays = left-of (suc q) c some (suc (q % c)) (q / c) l up

  module _ (l : c ≤ suc (q % c)) where
    over : suc q ≡ 0 + c * suc (q / c)
    over = omega (arith, mod-add-div q c, mod-lt q some, mul-suc c (q / c))

    pub digit-back : suc q % c ≡ 0
    digit-back = digit-of (suc q) c some 0 (suc (q / c)) some over

    pub left_up : suc q / c ≡ suc (q / c)
    left_up = left-of (suc q) c some 0 (suc (q / c)) some over

-- ---- all digits, where f has how many values each takes
module _ (f : ℕ → ℕ) where
  pub first-left : (v : ℕ) → left_of f 0 v ≡ 0
  unfolding left_of
  first-left zero = refl
  first-left (suc v) = rw (first-left v) (zero-div (f v))

  -- Digit v of j is at its last value, and goes back.
  abbrev pub Last : ℕ → ℕ → Type 0
  Last j v = f v ≤ suc (left_of f j v % f v)

  module _ (some : (v : ℕ) → 0 < f v) where
    pub carried : (j v : ℕ) → ((i : ℕ) → i < v → Last j i) → left_of f (suc j) v ≡ suc (left_of f j v)
    unfolding left_of
    carried j zero h = refl
    carried j (suc v) h = ap (λ (q : ℕ). q / f v) (carried j v (λ i l. h i (omega arith))) ∙ left_up (left_of f j v) (f v) (some v) (h v (omega arith))

    -- Once a digit went up, all above it stay.
    pub stayed : (j v : ℕ) → ((i : ℕ) → i < v → Last j i) → suc (left_of f j v % f v) < f v → (k : ℕ) → left_of f (suc j) (k + suc v) ≡ left_of f j (k + suc v)
    unfolding left_of
    stayed j v h l zero = rw (zero-add (suc v)) (ap (λ (q : ℕ). q / f v) (carried j v h) ∙ left-stays (left_of f j v) (f v) (some v) l)
    stayed j v h l (suc k) = rw (suc-add k (suc v)) (ap (λ (q : ℕ). q / f (k + suc v)) (stayed j v h l k))
