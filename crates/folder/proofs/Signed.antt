-- The bits of a signed number read back as the number: what a signed result, local or parameter leaves in a goal. A number
-- that fits 16 bits fits any wider width, and reads back from there too.
-- Assumes nothing.
use Prim.Native.Nat.{◌<◌, ◌^◌}
use mathlib.Core.Path.{◌≡◌, sym, ap₂, ◌∙◌, subst}
use lib.Dec.{T, leb}
use lib.IntN.{ℤ}
use lib.Signed.{mag}
use mir.Syntax.{Width, w16, w64}
use mir.Val.{SFits, hbits, to_z, of_z}
use mir.Facts.{to_z-of_z, sfits_widen}

pub back : {z : ℤ} → mag z < 2 ^ 63 → to_z w64 (of_z w64 z) ≡ z
back h = to_z-of_z {w = w64} (record { sfits = h })

pub back_fits : {z : ℤ} → SFits w64 z → to_z w64 (of_z w64 z) ≡ z
back_fits h = to_z-of_z {w = w64} h

pub back16 : {z : ℤ} → mag z < 2 ^ 15 → to_z w16 (of_z w16 z) ≡ z
back16 h = to_z-of_z {w = w16} (record { sfits = h })

-- From width a to width b.
module _ (a b : Width) (p : T (leb 15 (hbits a))) (q : T (leb 15 (hbits b))) (z : ℤ) (h : mag z < 2 ^ 15) where
  from_back : to_z a (of_z a z) ≡ z
  from_back = to_z-of_z {w = a} (sfits_widen {w = w16} {w' = a} p (record { sfits = h }))

  pub cast_fits : SFits b (to_z a (of_z a z))
  cast_fits = subst (λ (y : ℤ). SFits b y) (sym from_back) (sfits_widen {w = w16} {w' = b} q (record { sfits = h }))

  pub cast-back : to_z b (of_z b (to_z a (of_z a z))) ≡ z
  cast-back = to_z-of_z {w = b} cast_fits ∙ from_back

-- A call on signed arguments, which it reads back from their bits.
pub called : (op : ℤ → ℤ → ℤ) {r a b : ℤ} → mag r < 2 ^ 63 → r ≡ op (to_z w64 (of_z w64 a)) (to_z w64 (of_z w64 b)) → SFits w64 a → SFits w64 b
    → to_z w64 (of_z w64 r) ≡ op a b
called op ok e h l = back ok ∙ e ∙ ap₂ op (back_fits h) (back_fits l)
