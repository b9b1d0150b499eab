-- The values of a range: as many as its width, from its low on.
-- Assumes nothing.
use Prim.Native.Nat.{ℕ, suc, ◌+◌, ◌-◌, ◌≤◌, ◌<◌}
use mathlib.Core.Path.{◌≡◌, refl, sym, ap, ◌∙◌, subst}
use mathlib.Core.Bool.{Bool, true, false, not}
use native.Mathlib.Decide.{dec_lt}
use native.Mathlib.Numerals.{add-one}
use native.Mathlib.Omega.{arith}
use borrow.Author.Tests.{lt-ltb, le-ltb}
use lib.Dec.{T, ltb, leb-suc-suc}
use lib.IntN.{ℤ, pos, neg_ℤ, nat_abs, ◌+ℤ◌, ◌-ℤ◌, +ℤ_assoc, +ℤ_comm, +ℤ-neg_ℤ_cancel, pos-+ℤ-pos}
use lib.Signed.{mag, lt_z, ◌≤ℤ◌, lt_z_yes, lt_z_no, clash_ℤ}
use Rattle.folder.specs.Fields.{field_limit}
use Rattle.whole.proofs.Fits.{mag-add, mag-negℤ}
use Rattle.whole.proofs.Order.{to-⊑, from-⊑}
use Rattle.expressions.specs.Limits.{farthest_bound}
use Rattle.expressions.specs.declared.Range.{Range}
use Rattle.expressions.specs.Combinations.{width_of}

pub above : (a : ℤ) (k : ℕ) → a ≤ℤ (a +ℤ pos k)
above a k = from-⊑ (record { more = k; is = refl })

minus : (a : ℤ) (k : ℕ) → (a +ℤ pos k) -ℤ a ≡ pos k
minus a k = ap (λ (z : ℤ). z -ℤ a) (+ℤ_comm a (pos k)) ∙ +ℤ-neg_ℤ_cancel (pos k) a

-- How far b is from a below it.
pub far : (a b : ℤ) → a ≤ℤ b → b ≡ a +ℤ pos (nat_abs (b -ℤ a))
far a b h =
    let q = to-⊑ h in
    q.is ∙ ap (λ (k : ℕ). a +ℤ pos k) (sym (ap (λ (z : ℤ). nat_abs (z -ℤ a)) q.is ∙ ap nat_abs (minus a q.more)))

pub plus-two : (a : ℤ) (j k : ℕ) → (a +ℤ pos j) +ℤ pos k ≡ a +ℤ pos (j + k)
plus-two a j k = +ℤ_assoc a (pos j) (pos k) ∙ ap (λ (z : ℤ). a +ℤ z) (pos-+ℤ-pos j k)

-- Two numbers above a are in the order of how far they are from it.
nearer : (a : ℤ) (j k : ℕ) → (a +ℤ pos j) ≤ℤ (a +ℤ pos k) → j ≤ k
nearer a j k h =
    let q = to-⊑ h in
    let e : pos k ≡ pos (j + q.more) = sym (minus a k) ∙ ap (λ (z : ℤ). z -ℤ a) (q.is ∙ plus-two a j q.more) ∙ minus a (j + q.more) in
    let n : k ≡ j + q.more = ap mag e in
    omega arith

less-far : (a : ℤ) (j k : ℕ) → lt_z (a +ℤ pos j) (a +ℤ pos k) ≡ ltb j k
less-far a j k = go (dec_lt j k) (lt_z (a +ℤ pos j) (a +ℤ pos k)) refl
  where
    go : Dec (j < k) → (b : Bool) → lt_z (a +ℤ pos j) (a +ℤ pos k) ≡ b → b ≡ ltb j k
    go (yes l) true e = sym (lt-ltb j k l)
    go (yes l) false e = absurd (let h : k ≤ j = nearer a k j (lt_z_no (subst (λ (b : Bool). T (not b)) (sym e) tt)) in omega arith)
    go (no g) true e =
        let n : j ≡ k + (j - k) = omega arith in
        let h : (a +ℤ pos k) ≤ℤ (a +ℤ pos j) = from-⊑ (record { more = j - k; is = ap (λ (i : ℕ). a +ℤ pos i) n ∙ sym (plus-two a k (j - k)) }) in
        clash_ℤ (lt_z_yes (subst T (sym e) tt)) h
    go (no g) false e = sym (le-ltb j k (omega arith))

module _ (r : Range) (ordered : r.low ≤ℤ r.high) where
  pub within-width : (d : ℕ) → d < width_of r → (r.low +ℤ pos d) ≤ℤ r.high
  unfolding width_of
  within-width d h =
      let w : ℕ = nat_abs (r.high -ℤ r.low) in
      let e : w ≡ d + (w - d) = omega arith in
      from-⊑ (record { more = w - d; is = far r.low r.high ordered ∙ ap (λ (k : ℕ). r.low +ℤ pos k) e ∙ sym (plus-two r.low d (w - d)) })

  pub width-within : (z : ℤ) → r.low ≤ℤ z → z ≤ℤ r.high → nat_abs (z -ℤ r.low) < width_of r
  unfolding width_of
  width-within z h l =
      let q = to-⊑ h in
      let p = to-⊑ l in
      let a : nat_abs (z -ℤ r.low) ≡ q.more = ap (λ (y : ℤ). nat_abs (y -ℤ r.low)) q.is ∙ ap nat_abs (minus r.low q.more) in
      let up : r.high ≡ r.low +ℤ pos (q.more + p.more) = p.is ∙ ap (λ (y : ℤ). y +ℤ pos p.more) q.is ∙ plus-two r.low q.more p.more in
      let b : nat_abs (r.high -ℤ r.low) ≡ q.more + p.more = ap (λ (y : ℤ). nat_abs (y -ℤ r.low)) up ∙ ap nat_abs (minus r.low (q.more + p.more)) in
      omega arith

  -- What lies d above the low is below the high where one more fits the width.
  pub less-high : (d : ℕ) → lt_z (r.low +ℤ pos d) r.high ≡ ltb (suc d) (width_of r)
  unfolding width_of
  less-high d =
      let w : ℕ = nat_abs (r.high -ℤ r.low) in
      ap (λ (z : ℤ). lt_z (r.low +ℤ pos d) z) (far r.low r.high ordered) ∙ less-far r.low d w ∙ rw (add-one w) (sym (leb-suc-suc (suc d) w))

-- A difference of two numbers, the second not the greater.
pub record Apart (a b : ℤ) : Type 0 where
  pub far-by : ℕ
  pub is : b -ℤ a ≡ pos far-by
  pub small : far-by < field_limit

pub apart : (a b : ℤ) → a ≤ℤ b → mag a ≤ farthest_bound → mag b ≤ farthest_bound → Apart a b
apart a b h l k =
    let q = to-⊑ h in
    let e : b -ℤ a ≡ pos q.more = ap (λ (y : ℤ). y -ℤ a) q.is ∙ minus a q.more in
    let u : mag (b -ℤ a) ≡ q.more = ap mag e in
    record { far-by = q.more; is = e; small = omega (arith, mag-add b (neg_ℤ a), mag-negℤ a) }
