-- Bits of sets: a number below 2 to the power w has none from w on, the set of all variables has each, and a union has
-- those of both.
-- Assumes nothing.
use Prim.Native.Nat.{ℕ, zero, suc, ◌^◌, ◌/◌, ◌%◌, ◌<◌, ◌≤◌, max}
use mathlib.Core.Path.{◌≡◌, refl, sym, ap, ◌∙◌}
use mathlib.Core.Bool.{true, false, ◌||◌, false≢true, true-or, or-true}
use native.Mathlib.Nat.{pow-le-pow_right, div-eq_of_lt, div-lt_iff_lt-mul, one-le-pow, div-div-eq-div-mul, div_self, div-one, pow-suc, mul_comm, mod-lt}
use native.Mathlib.Decide.{dec_lt}
use native.Mathlib.Omega.{arith}
use lib.Arith.{digits_div, digits_mod}
use lib.Bits.{bit_or, or_step}
use lib.Dec.{eqb}
use lib.Pow.{pow_pos}
use Rattle.folder.specs.Scan.{first_bad}
use Rattle.folder.proofs.Decides.{everywhere, passes}
use Rattle.expressions.specs.Limits.{most_variables, all_tracked}
use Rattle.expressions.specs.Reading.{has_bit}
use Rattle.expressions.specs.Mentions.{union}

pub no-bit : (t w i : ℕ) → t < 2 ^ w → w ≤ i → has_bit t i ≡ false
unfolding has_bit
no-bit t w i h l = let b : 2 ^ w ≤ 2 ^ i = pow-le-pow_right {n = 2} (omega arith) l in rw (div-eq_of_lt {n = t} {m = 2 ^ i} (omega arith))

-- What row 15 asks of a tracked set, and what it gives.
pub bit_below : (t w i : ℕ) → t / 2 ^ w ≡ 0 → has_bit t i ≡ true → i < w
bit_below t w i e h = go (dec_lt i w)
  where
    go : Dec (i < w) → i < w
    go (yes l) = l
    go (no g) =
        let some : 0 < 2 ^ w = omega (arith, one-le-pow w 2 (omega arith)) in
        let small : t < 2 ^ w = omega (arith, (div-lt_iff_lt-mul {k = 2 ^ w} {x = t} {y = 1} some).0 (omega arith)) in
        absurd (false≢true (sym (no-bit t w i small (omega arith)) ∙ h))

-- The set of all variables has each of them.
pub each-tracked : (i : ℕ) → i < most_variables → has_bit all_tracked i ≡ true
unfolding first_bad has_bit
each-tracked = (everywhere most_variables (λ i l. passes (has_bit all_tracked i))).yes refl

-- ---- the set of one variable, and unions: by induction on the bit
pub own-bit : (i : ℕ) → has_bit (2 ^ i) i ≡ true
unfolding has_bit
own-bit i = rw (div_self {n = 2 ^ i} (pow_pos i)) refl

shift : (t i : ℕ) → has_bit t (suc i) ≡ has_bit (t / 2) i
unfolding has_bit
shift t i = rw (pow-suc 2 i, mul_comm (2 ^ i) 2, ← div-div-eq-div-mul t 2 (2 ^ i)) refl

last_bit : (t : ℕ) → has_bit t 0 ≡ eqb (t % 2) 1
unfolding has_bit
last_bit t = rw (div-one t) refl

either : (a b : ℕ) → a < 2 → b < 2 → eqb (max a b) 1 ≡ (eqb a 1 || eqb b 1)
either zero zero p q = refl
either zero (suc zero) p q = refl
either zero (suc (suc b)) p q = absurd (omega arith)
either (suc zero) zero p q = refl
either (suc zero) (suc zero) p q = refl
either (suc zero) (suc (suc b)) p q = absurd (omega arith)
either (suc (suc a)) b p q = absurd (omega arith)

odd-small : (a : ℕ) → a % 2 < 2
odd-small a = mod-lt a {m = 2} (omega arith)

max-small : (a b : ℕ) → max (a % 2) (b % 2) < 2
max-small a b = omega (arith, odd-small a, odd-small b)

or-half : (a b : ℕ) → bit_or a b / 2 ≡ bit_or (a / 2) (b / 2)
or-half a b = ap (λ (z : ℕ). z / 2) (or_step a b) ∙ digits_div (bit_or (a / 2) (b / 2)) (max-small a b)

or-odd : (a b : ℕ) → bit_or a b % 2 ≡ max (a % 2) (b % 2)
or-odd a b = ap (λ (z : ℕ). z % 2) (or_step a b) ∙ digits_mod (bit_or (a / 2) (b / 2)) (max-small a b)

or-bit : (i a b : ℕ) → has_bit (bit_or a b) i ≡ (has_bit a i || has_bit b i)
or-bit zero a b = rw (last_bit (bit_or a b), last_bit a, last_bit b, or-odd a b) (either (a % 2) (b % 2) (odd-small a) (odd-small b))
or-bit (suc i) a b = rw (shift (bit_or a b) i, shift a i, shift b i, or-half a b) (or-bit i (a / 2) (b / 2))

pub union-bit : (a b i : ℕ) → has_bit (union a b) i ≡ (has_bit a i || has_bit b i)
unfolding union
union-bit a b i = or-bit i a b

pub in_left : (a b i : ℕ) → has_bit a i ≡ true → has_bit (union a b) i ≡ true
in_left a b i h = rw (union-bit a b i, h) (true-or (has_bit b i))

pub in_right : (a b i : ℕ) → has_bit b i ≡ true → has_bit (union a b) i ≡ true
in_right a b i h = rw (union-bit a b i, h) (or-true (has_bit a i))
