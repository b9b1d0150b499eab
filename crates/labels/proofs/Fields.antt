-- Signed 2-byte fields are equal where their bits are.
-- Assumes nothing.
use Prim.Native.Nat.{ℕ, suc, ◌-◌, ◌<◌}
use mathlib.Core.Path.{◌≡◌, refl, sym, ap, ◌∙◌}
use mathlib.Core.Bool.{Bool, true, false}
use native.Mathlib.Omega.{arith}
use borrow.Author.Tests.{lt-ltb}
use lib.Dec.{ltb, eqb}
use lib.IntN.{ℤ, pos, negsuc}
use Rattle.folder.specs.Fields.{field_limit, half_limit, signed16}
use Rattle.folder.proofs.Decides.{same, same_test, reworded}
use Rattle.whole.specs.Order.{eq_z}
use Rattle.whole.proofs.Order.{equal-decided}

-- The bits of a number.
bits : ℤ → ℕ
bits (pos n) = n
bits (negsuc n) = field_limit - suc n

bits-signed : (u : ℕ) → u < field_limit → bits (signed16 u) ≡ u
unfolding signed16 bits
bits-signed u h = go (ltb u half_limit) refl
  where
    go : (t : Bool) → ltb u half_limit ≡ t → bits (signed16 u) ≡ u
    go true e = rw e refl
    go false e = rw (e, lt-ltb u field_limit h) (omega arith)

pub signed_same : (a b : ℕ) → a < field_limit → b < field_limit → eqb a b ≡ eq_z (signed16 a) (signed16 b)
signed_same a b h l =
    same_test (same a b)
    (reworded (λ e. sym (bits-signed a h) ∙ ap bits e ∙ bits-signed b l) (ap signed16) (equal-decided (signed16 a) (signed16 b)))
