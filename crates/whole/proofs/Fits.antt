-- Sums, differences and products of numbers at most `farthest` from 0 fit 64 bits.
-- Assumes nothing.
use mathlib.Core.Path.{◌≡◌}
use mathlib.Core.Bool.{Bool, true, false, cond, false≢true}
use Prim.Native.Nat.{ℕ, zero, suc, ◌+◌, ◌-◌, ◌*◌, ◌≤◌, zero-le}
use native.Mathlib.Nat.{le_refl, le_trans, le-suc, mul-le-mul, lt_of_le_of_lt}
use native.Mathlib.Omega.{arith}
use borrow.Author.Tests.{ltb-true}
use lib.Dec.{ltb, lit<}
use lib.IntN.{ℤ, pos, negsuc, neg_ℤ, sub_ℕ, ◌+ℤ◌, ◌-ℤ◌, ◌*ℤ◌}
use lib.Signed.{mag, lt_z}
use mir.Syntax.{w64}
use mir.Val.{SFits, to_z, of_z}
use Rattle.folder.proofs.Signed.{back}
use Rattle.whole.specs.Limits.{farthest}

mag-cond : (t : Bool) (m n k : ℕ) → m ≤ k → n ≤ k → mag (cond t (negsuc m) (pos n)) ≤ k
mag-cond true m n k h l = h
mag-cond false m n k h l = l

mag-subℕ : (a b : ℕ) → mag (sub_ℕ a b) ≤ a + b
mag-subℕ a b = mag-cond (ltb a b) (b - suc a) (a - b) (a + b) (omega arith) (omega arith)

pub mag-add : (a b : ℤ) → mag (a +ℤ b) ≤ suc (mag a + mag b)
mag-add (pos a) (pos b) = omega arith
mag-add (pos a) (negsuc b) = omega (arith, mag-subℕ a (suc b))
mag-add (negsuc a) (pos b) = omega (arith, mag-subℕ b (suc a))
mag-add (negsuc a) (negsuc b) = omega arith

pub mag-negℤ : (a : ℤ) → mag (neg_ℤ a) ≤ suc (mag a)
mag-negℤ (pos zero) = zero-le
mag-negℤ (pos (suc n)) = omega arith
mag-negℤ (negsuc n) = le_refl (suc n)

mag-neg-pos : (n : ℕ) → mag (neg_ℤ (pos n)) ≤ n
mag-neg-pos zero = zero-le
mag-neg-pos (suc n) = le-suc n

mag-mul : (a b : ℤ) → mag (a *ℤ b) ≤ suc (mag a) * suc (mag b)
mag-mul (pos a) (pos b) = mul-le-mul (le-suc a) (le-suc b)
mag-mul (pos a) (negsuc b) = le_trans (mag-neg-pos (a * suc b)) (mul-le-mul (le-suc a) (le_refl (suc b)))
mag-mul (negsuc a) (pos b) = le_trans (mag-neg-pos (suc a * b)) (mul-le-mul (le_refl (suc a)) (le-suc b))
mag-mul (negsuc a) (negsuc b) = le_refl (suc a * suc b)

add-fits : (a b : ℤ) → mag a ≤ farthest → mag b ≤ farthest → SFits w64 (a +ℤ b)
add-fits a b h l = record { sfits = omega (arith, mag-add a b) }

sub-fits : (a b : ℤ) → mag a ≤ farthest → mag b ≤ farthest → SFits w64 (a -ℤ b)
sub-fits a b h l = record { sfits = omega (arith, mag-add a (neg_ℤ b), mag-negℤ b) }

mul-fits : (a b : ℤ) → mag a ≤ farthest → mag b ≤ farthest → SFits w64 (a *ℤ b)
mul-fits a b h l = record { sfits = lt_of_le_of_lt (le_trans (mag-mul a b) (mul-le-mul {n₂ = suc farthest} {m₂ = suc farthest} (omega arith) (omega arith))) (lit< tt) }

-- What is below a number that fits has room for one more.
pub up_fits : (a b : ℤ) → SFits w64 a → SFits w64 b → lt_z a b ≡ true → SFits w64 (a +ℤ pos 1)
up_fits (pos a) (pos b) h l e = record { sfits = omega (arith, ltb-true a b e, l.sfits) }
up_fits (pos a) (negsuc b) h l e = absurd (false≢true e)
up_fits (negsuc a) b h l e = record { sfits = lt_of_le_of_lt (mag-cond (ltb 1 (suc a)) (suc a - 2) (1 - suc a) a (omega arith) (omega arith)) h.sfits }

-- Sums, differences and products of arguments that are read back from their bits.
small-back : (z : ℤ) → mag z ≤ farthest → to_z w64 (of_z w64 z) ≡ z
small-back z h = back (omega arith)

pub add-near : (a b : ℤ) → mag a ≤ farthest → mag b ≤ farthest → SFits w64 (to_z w64 (of_z w64 a) +ℤ to_z w64 (of_z w64 b))
add-near a b h l = rw (small-back a h, small-back b l) (add-fits a b h l)

pub sub-near : (a b : ℤ) → mag a ≤ farthest → mag b ≤ farthest → SFits w64 (to_z w64 (of_z w64 a) -ℤ to_z w64 (of_z w64 b))
sub-near a b h l = rw (small-back a h, small-back b l) (sub-fits a b h l)

pub mul-near : (a b : ℤ) → mag a ≤ farthest → mag b ≤ farthest → SFits w64 (to_z w64 (of_z w64 a) *ℤ to_z w64 (of_z w64 b))
mul-near a b h l = rw (small-back a h, small-back b l) (mul-fits a b h l)
