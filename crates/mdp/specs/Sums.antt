-- Sums and greatest values over the whole numbers below n, and division rounded up.
-- Assumes nothing.
use Rattle.std.specs.Prelude.{ℕ, zero, suc, ◌+◌, ◌-◌, ◌/◌, ◌<◌, max, Bool, true, false}
use Rattle.std.proofs.Math.Nat.{le_step}
use Rattle.std.proofs.Common.{le_refl}

-- The sum of f i over the i below n. (f may use that i is below n.)
abbrev pub sum : (n : ℕ) → ((i : ℕ) → i < n → ℕ) → ℕ
sum zero f = 0
sum (suc n) f = sum n (λ i h. f i (le_step h)) + f n (le_refl (suc n))

-- The greatest f i over the i below n; 0 if there is none.
abbrev pub greatest : (n : ℕ) → ((i : ℕ) → i < n → ℕ) → ℕ
greatest zero f = 0
greatest (suc n) f = max (greatest n (λ i h. f i (le_step h))) (f n (le_refl (suc n)))

-- x / d, rounded up.
abbrev pub rounded_up : ℕ → ℕ → ℕ
rounded_up x d = (x + (d - 1)) / d
