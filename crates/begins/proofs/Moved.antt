-- Beginnings after an expansion: those of later nodes moved, then those of the new nodes put.
-- Assumes nothing.
use Prim.Native.Nat.{ℕ, ◌+◌, ◌<◌}
use mathlib.Core.Path.{◌≡◌, sym, ◌∙◌}
use mathlib.Core.List.{List}
use native.Mathlib.Decide.{dec_lt}
use native.Mathlib.Omega.{arith}
use lib.ListN.{length, get_or}
use lib.Seq.{ext_get_or}
use Rattle.folder.specs.Tab.{tab}
use Rattle.folder.proofs.TabLaws.{length-tab, get_or-tab}
use Rattle.building.specs.Counts.{begin_after}
use Rattle.building.proofs.Counting.{after-own, after-later, after-new, after-past}
use Rattle.put.specs.Put.{Changed}

module _ (n nodes births bytes end : ℕ) {old mid new : List ℕ} (there : n < nodes) (moved : Changed (n + 1) nodes (λ _ begin. begin + bytes) old mid) (begun : Changed nodes (nodes + births) (λ _ _. end) mid new) where
  abbrev begin : ℕ → ℕ
  begin i = get_or old i 0

  is-after : (i : ℕ) → get_or new i 0 ≡ begin_after n nodes births bytes end begin i
  is-after i = go (dec_lt n i) (dec_lt i nodes) (dec_lt i (nodes + births))
    where
      go : Dec (n < i) → Dec (i < nodes) → Dec (i < nodes + births) → get_or new i 0 ≡ begin_after n nodes births bytes end begin i
      go (no d) b c = begun.stays.below i (omega arith) ∙ moved.stays.below i (omega arith) ∙ sym (after-own n nodes births bytes end begin i (omega arith))
      go (yes h) (yes l) c = begun.stays.below i l ∙ moved.is i (omega arith) l ∙ sym (after-later n nodes births bytes end begin i h l)
      go (yes h) (no d) (yes l) = begun.is i (omega arith) l ∙ sym (after-new n nodes births bytes end begin i there (omega arith) l)
      go (yes h) (no d) (no e) = begun.stays.past i (omega arith) ∙ moved.stays.past i (omega arith) ∙ sym (after-past n nodes births bytes end begin i there (omega arith))

  pub expanded : new ≡ tab (length old) (begin_after n nodes births bytes end begin)
  expanded =
      let long : length new ≡ length old = begun.stays.long ∙ moved.stays.long in
      ext_get_or 0 new (tab (length old) (begin_after n nodes births bytes end begin)) (long ∙ sym (length-tab (length old) (begin_after n nodes births bytes end begin)))
      (λ i h. is-after i ∙ sym (get_or-tab 0 (length old) (begin_after n nodes births bytes end begin) i (omega arith)))
