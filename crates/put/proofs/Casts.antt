-- A value as an unsigned field.
-- Assumes nothing.
use Prim.Native.Nat.{ℕ, suc, ◌-◌, ◌<◌, ◌≤◌}
use mathlib.Core.Path.{◌≡◌, refl, sym, ap, ◌∙◌, subst}
use mathlib.Core.Bool.{true, false, false≢true}
use native.Mathlib.Omega.{arith}
use borrow.Author.Tests.{ltb-true, le-ltb}
use lib.Dec.{T, leb→le}
use lib.IntN.{ℤ, pos, negsuc, nat_abs, ◌+ℤ◌}
use lib.Signed.{non_neg, lt_z}
use mir.Syntax.{w64}
use mir.Val.{Fits, SFits, to_z, of_z}
use Rattle.folder.proofs.Signed.{back}
use Rattle.put.specs.Put.{unsigned, FitsField}

pub small : (z : ℤ) → FitsField z → unsigned z < 65536
small (pos n) f = let h : n ≤ 30000 = leb→le n 30000 f.high.le in omega arith
small (negsuc n) f = omega arith

pub neg_sum : (z : ℤ) → FitsField z → lt_z z (pos 0) ≡ true → z +ℤ pos 65536 ≡ pos (unsigned z)
neg_sum (pos n) f h = absurd (omega (arith, ltb-true n 0 h))
neg_sum (negsuc n) f h =
    let l : n ≤ 29999 = leb→le n 29999 f.low.le in
    let e : 65536 - suc n ≡ 65535 - n = omega arith in
    rw (le-ltb 65536 (suc n) (omega arith)) (ap pos e)

pub not_neg : (z : ℤ) → FitsField z → lt_z z (pos 0) ≡ false → z ≡ pos (unsigned z)
not_neg (pos n) f h = refl
not_neg (negsuc n) f h = absurd (false≢true (sym h))

-- What the code casts is r, which is the field u.
module _ {r : ℤ} {u : ℕ} (l : u < 65536) (e : r ≡ pos u) where
  read : to_z w64 (of_z w64 r) ≡ pos u
  read = ap (λ (z : ℤ). to_z w64 (of_z w64 z)) e ∙ back (omega arith)

  pub cast_ok : T (non_neg (to_z w64 (of_z w64 r))) × Fits w64 (nat_abs (to_z w64 (of_z w64 r)))
  cast_ok = rw read (tt, record { fits = omega arith })

  pub cast_is : (nat_abs (to_z w64 (of_z w64 r)) ≡ u) × (nat_abs (to_z w64 (of_z w64 r)) < 65536)
  cast_is = rw read (refl, l)

pub sum_fits : {z : ℤ} {u : ℕ} → u < 65536 → z ≡ pos u → SFits w64 z
sum_fits l e = subst (λ (y : ℤ). SFits w64 y) (sym e) (record { sfits = omega arith })
