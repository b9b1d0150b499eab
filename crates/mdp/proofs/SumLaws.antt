-- What the proofs use of sums and greatest values.
--     weighed         one law for all weighted sums: a bound on each part is a bound on the whole
--     greatest-above, greatest-below   the greatest is an upper bound, and the least one
--     attained        the greatest is 0, or one of the values
--     sum-eq, greatest-eq   of equal values
--     sum_more        a part of the sum
--     sum-few         a bound on each value is a bound on the sum
--     sum-next, greatest-next   one value more, as a loop adds it
-- Assumes nothing.
use Prim.Native.Nat.{ℕ, zero, suc, ◌+◌, ◌*◌, ◌≤◌, ◌<◌, max}
use native.Mathlib.Nat.{le_step, le_refl, le_trans, le_of_suc-le-suc, not-suc-le-zero, mul-suc, mul-le-mul_left, le-max_left, le-max_right, eq-or-lt_of_le}
use native.Mathlib.Nat.{max-eq_left, max-eq_right}
use native.Mathlib.Decide.{dec_le}
use native.Mathlib.Numerals.{add-one}
use native.Mathlib.Omega.{arith}
use mathlib.Core.Path.{◌≡◌, refl, sym, ap, ◌∙◌, subst}
use mathlib.Core.Logic.{◌⊎◌, inl, inr, ⊎_elim}
use Rattle.mdp.specs.Sums.{sum, greatest}

pub weighed : (n : ℕ) (w : ℕ → ℕ) (p q : (i : ℕ) → i < n → ℕ) (a b c : ℕ) → ((i : ℕ) (h : i < n) → a * p i h ≤ b * q i h + c)
    → a * sum n (λ i h. w i * p i h) ≤ b * sum n (λ i h. w i * q i h) + c * sum n (λ i h. w i)
weighed zero w p q a b c f = omega arith
weighed (suc n) w p q a b c f =
    omega (arith, weighed n w (λ i h. p i (le_step h)) (λ i h. q i (le_step h)) a b c (λ i h. f i (le_step h)), mul-le-mul_left (w n) (f n (le_refl (suc n))))

mul-max-le : (a u v x : ℕ) → a * u ≤ x → a * v ≤ x → a * max u v ≤ x
mul-max-le a u v x hu hv = go (dec_le u v)
  where
    go : Dec (u ≤ v) → a * max u v ≤ x
    go (yes l) = rw (max-eq_right l) hv
    go (no g) = rw (max-eq_left {n = u} {m = v} (omega arith)) hu

pub greatest-below : (a : ℕ) (n : ℕ) (f : (i : ℕ) → i < n → ℕ) (x : ℕ) → ((i : ℕ) (h : i < n) → a * f i h ≤ x) → a * greatest n f ≤ x
greatest-below a zero f x g = omega arith
greatest-below a (suc n) f x g = mul-max-le a _ _ x (greatest-below a n (λ i h. f i (le_step h)) x (λ i h. g i (le_step h))) (g n (le_refl (suc n)))

pub greatest-above : (n : ℕ) (f : ℕ → ℕ) (i : ℕ) → i < n → f i ≤ greatest n (λ j _. f j)
greatest-above zero f i h = absurd (not-suc-le-zero h)
greatest-above (suc n) f i h = go (λ l. greatest-above n f i l) (eq-or-lt_of_le (le_of_suc-le-suc h))
  where
    go : (i < n → f i ≤ greatest n (λ j _. f j)) → (i ≡ n) ⊎ (i < n) → f i ≤ max (greatest n (λ j _. f j)) (f n)
    go below (inl e) = rw e (le-max_right _ _)
    go below (inr l) = le_trans (below l) (le-max_left _ _)

-- Where the greatest of f i over the i below n stands.
pub data Attained (n : ℕ) (f : ℕ → ℕ) : Type 0 where
  nowhere : greatest n (λ j _. f j) ≡ 0 → Attained n f
  at : (i : ℕ) → i < n → greatest n (λ j _. f j) ≡ f i → Attained n f

pub attained : (n : ℕ) (f : ℕ → ℕ) → Attained n f
attained zero f = nowhere refl
attained (suc n) f = go (attained n f) (dec_le (greatest n (λ j _. f j)) (f n))
  where
    go : Attained n f → Dec (greatest n (λ j _. f j) ≤ f n) → Attained (suc n) f
    go a (yes l) = at n (le_refl (suc n)) (max-eq_right l)
    go (nowhere e) (no g) = absurd (g (omega arith))
    go (at i h e) (no g) = at i (le_step h) (max-eq_left (omega arith) ∙ e)

pub sum-eq : (n : ℕ) (f g : (i : ℕ) → i < n → ℕ) → ((i : ℕ) (h : i < n) → f i h ≡ g i h) → sum n f ≡ sum n g
sum-eq n f g h = ap (sum n) (λ i j l. h j l i)

pub greatest-eq : (n : ℕ) (f g : (i : ℕ) → i < n → ℕ) → ((i : ℕ) (h : i < n) → f i h ≡ g i h) → greatest n f ≡ greatest n g
greatest-eq n f g h = ap (greatest n) (λ i j l. h j l i)

-- What comes before c, and c itself, is part of the sum.
pub sum_more : (n : ℕ) (f : ℕ → ℕ) (c : ℕ) → c < n → sum c (λ i _. f i) + f c ≤ sum n (λ i _. f i)
sum_more zero f c h = absurd (not-suc-le-zero h)
sum_more (suc n) f c h =
    ⊎_elim (λ e. subst (λ (k : ℕ). sum k (λ i _. f i) + f k ≤ sum (suc n) (λ i _. f i)) (sym e) (le_refl _))
    (λ l. omega (arith, sum_more n f c l))
    (eq-or-lt_of_le (le_of_suc-le-suc h))

pub sum-few : (most n : ℕ) (f : ℕ → ℕ) → ((i : ℕ) → i < n → f i ≤ most) → sum n (λ i _. f i) ≤ most * n
sum-few most zero f h = omega arith
sum-few most (suc n) f h = omega (arith, sum-few most n f (λ i l. h i (le_step l)), h n (le_refl (suc n)), mul-suc most n)

module _ (n : ℕ) (f : ℕ → ℕ) {a t : ℕ} where
  pub sum-next : a ≡ sum n (λ i _. f i) → t ≡ f n → a + t ≡ sum (n + 1) (λ i _. f i)
  sum-next p q = rw (p, q, add-one) refl

  pub greatest-next : a ≡ greatest n (λ i _. f i) → t ≡ f n → max a t ≡ greatest (n + 1) (λ i _. f i)
  greatest-next p q = rw (p, q, add-one) refl
