-- 2-byte fields as signed values; a concrete label by its values.
-- Assumes nothing.
use Prim.Native.Nat.{ℕ, ◌+◌, ◌-◌, ◌<◌, ◌^◌}
use mathlib.Core.Path.{◌≡◌, refl, sym, ap, ◌∙◌}
use mathlib.Core.Bool.{Bool, true, false}
use mathlib.Core.List.{List}
use native.Mathlib.Omega.{arith}
use borrow.Author.Tests.{lt-ltb, le-ltb, ltb-true, ltb-false}
use lib.ListN.{length, get_or}
use lib.Seq.{ext_get_or}
use lib.Dec.{ltb, eqb}
use lib.IntN.{ℤ, pos, negsuc}
use lib.Signed.{mag}
use mir.Syntax.{w16}
use mir.Val.{SFits}
use Rattle.folder.specs.Scan.{all}
use Rattle.folder.specs.Fields.{field_limit, half_limit, signed16}
use Rattle.folder.specs.Contents.{signed_field}
use Rattle.folder.proofs.Decides.{same, same_test, reworded, everywhere}
use Rattle.folder.proofs.TabLaws.{length-tab, get_or-tab}
use Rattle.whole.specs.Order.{eq_z}
use Rattle.whole.proofs.Order.{equal-decided}
use Rattle.graph.specs.Simulation.{node_size}
use Rattle.hash.specs.Hash.{bits}
use Rattle.slots.specs.Slots.{same_state}
use Rattle.slots.specs.Nodes.{label_in, value_is}
use Rattle.slots.proofs.Rounds.{same-states}

pub signed-small : (u : ℕ) → u < field_limit → mag (signed16 u) < 2 ^ 15
unfolding signed16
signed-small u h = go (ltb u half_limit) refl
  where
    go : (t : Bool) → ltb u half_limit ≡ t → mag (signed16 u) < 2 ^ 15
    go true e = let l = ltb-true u half_limit e in rw e (omega arith)
    go false e = let l = ltb-false u half_limit e in rw (e, lt-ltb u field_limit h) (omega arith)

pub bits-signed : (u : ℕ) → u < field_limit → bits (signed16 u) ≡ u
unfolding signed16 bits
bits-signed u h = go (ltb u half_limit) refl
  where
    go : (t : Bool) → ltb u half_limit ≡ t → bits (signed16 u) ≡ u
    go true e = rw e refl
    go false e = rw (e, lt-ltb u field_limit h) (omega arith)

signed-bits : (z : ℤ) → SFits w16 z → signed16 (bits z) ≡ z
unfolding signed16 bits
signed-bits (pos n) h = let l : n < 2 ^ 15 = h.sfits in rw (lt-ltb n half_limit (omega arith)) refl
signed-bits (negsuc n) h =
    let l : n < 2 ^ 15 = h.sfits in
    rw (le-ltb (field_limit - 1 - n) half_limit (omega arith), lt-ltb (field_limit - 1 - n) field_limit (omega arith)) (ap negsuc (omega arith))

-- A field is that of a value if its value is that one.
pub field_is : (u : ℕ) (z : ℤ) → u < field_limit → SFits w16 z → eqb u (bits z) ≡ eq_z (signed16 u) z
field_is u z l h =
    same_test (same u (bits z))
    (reworded (λ e. sym (bits-signed u l) ∙ ap bits e) (λ e. ap signed16 e ∙ signed-bits z h) (equal-decided (signed16 u) z))

-- All values are x's: the label is x.
pub label-tested : (nb : List ℕ) (n : ℕ) (x : List ℤ) → all (value_is (length x) nb n x) (length x) ≡ same_state (label_in (length x) nb n) x
label-tested nb n x =
    same_test
    (reworded
    (λ h. ext_get_or (pos 0) (label_in (length x) nb n) x (length-tab (length x) f) (λ v l. get_or-tab (pos 0) (length x) f v (omega (arith, length-tab (length x) f)) ∙ h v (omega (arith, length-tab (length x) f))))
    (λ e v l. sym (get_or-tab (pos 0) (length x) f v l) ∙ ap (λ (y : List ℤ). get_or y v (pos 0)) e)
    (everywhere (length x) (λ v l. equal-decided (f v) (get_or x v (pos 0)))))
    (same-states (label_in (length x) nb n) x)
  where
    f : ℕ → ℤ
    f v = signed_field (node_size (length x)) nb n (6 + v)
