-- What a written field reads as, and what stays.
-- Assumes nothing.
use Prim.Native.Nat.{ℕ, suc, ◌+◌, ◌-◌, ◌/◌, ◌%◌, ◌<◌, ◌≤◌}
use mathlib.Core.Path.{◌≡◌, refl, ap, ◌∙◌}
use mathlib.Core.Logic.{◌⊎◌, inl, inr}
use mathlib.Core.List.{List}
use native.Mathlib.Nat.{div-add-mod'}
use native.Mathlib.Omega.{arith}
use borrow.Author.Tests.{lt-ltb, le-ltb}
use lib.Dec.{leb→le}
use lib.ListN.{length, get_or, set, length-set}
use lib.Seq.{get_or-set_same, get_or-set_other}
use lib.IntN.{ℤ, pos, negsuc}
use Rattle.folder.specs.Fields.{field_limit, u16, signed16}
use Rattle.put.specs.Put.{put2, unsigned, FitsField, Stays}

module _ (l : List ℕ) (k u : ℕ) where
  pub put-length : length (put2 l k u) ≡ length l
  unfolding put2
  put-length = length-set (set l k (u % 256)) (k + 1) (u / 256) ∙ length-set l k (u % 256)

  pub put-other-byte : (j : ℕ) → (j ≡ k → ⊥) → (j ≡ k + 1 → ⊥) → get_or (put2 l k u) j 0 ≡ get_or l j 0
  unfolding put2
  put-other-byte j p q = get_or-set_other (set l k (u % 256)) (k + 1) j (u / 256) 0 q ∙ get_or-set_other l k j (u % 256) 0 p

  pub put_back : k + 1 < length l → u < field_limit → u16 (put2 l k u) k ≡ u
  unfolding put2 u16
  put_back h s =
      let a : get_or (set (set l k (u % 256)) (k + 1) (u / 256)) k 0 ≡ u % 256 =
      get_or-set_other (set l k (u % 256)) (k + 1) k (u / 256) 0 (λ e. omega arith) ∙ get_or-set_same l k (u % 256) 0 (omega arith) in
      let b : get_or (set (set l k (u % 256)) (k + 1) (u / 256)) (k + 1) 0 ≡ u / 256 =
      get_or-set_same (set l k (u % 256)) (k + 1) (u / 256) 0 (omega (arith, length-set l k (u % 256))) in
      rw (a, b) (omega (arith, div-add-mod' u 256))

  pub put_other : (j : ℕ) → (j + 1 < k) ⊎ (k + 1 < j) → u16 (put2 l k u) j ≡ u16 l j
  unfolding u16
  put_other j h = rw (put-other-byte j (λ e. apart h (inl e)) (λ e. apart h (inr e)), put-other-byte (j + 1) (λ e. next h (inl e)) (λ e. next h (inr e)))
    where
      apart : (j + 1 < k) ⊎ (k + 1 < j) → (j ≡ k) ⊎ (j ≡ k + 1) → ⊥
      apart (inl a) (inl e) = omega arith
      apart (inl a) (inr e) = omega arith
      apart (inr a) (inl e) = omega arith
      apart (inr a) (inr e) = omega arith

      next : (j + 1 < k) ⊎ (k + 1 < j) → (j + 1 ≡ k) ⊎ (j + 1 ≡ k + 1) → ⊥
      next (inl a) (inl e) = omega arith
      next (inl a) (inr e) = omega arith
      next (inr a) (inl e) = omega arith
      next (inr a) (inr e) = omega arith

-- ---- parts that stay
pub stays-none : (a b : ℕ) (l : List ℕ) → Stays a b l l
stays-none a b l = record { long = refl; below = λ j h. refl; past = λ j h. refl }

-- A field that is written within.
pub stays_put : {a b : ℕ} {l new : List ℕ} (k u : ℕ) → Stays a b l new → a ≤ k → k + 1 < b → Stays a b l (put2 new k u)
stays_put {new = new} k u s p q = record {
  long = put-length new k u ∙ s.long;
  below = λ j h. put-other-byte new k u j (λ e. omega arith) (λ e. omega arith) ∙ s.below j h;
  past = λ j h. put-other-byte new k u j (λ e. omega arith) (λ e. omega arith) ∙ s.past j h;
}

-- One part after the other.
pub stays_then : {a b c : ℕ} {l mid new : List ℕ} → a ≤ b → b ≤ c → Stays a b l mid → Stays b c mid new → Stays a c l new
stays_then p q s t = record {
  long = t.long ∙ s.long;
  below = λ j h. t.below j (omega arith) ∙ s.below j h;
  past = λ j h. t.past j h ∙ s.past j (omega arith);
}

-- The same part twice.
pub stays-both : {a b : ℕ} {l mid new : List ℕ} → Stays a b l mid → Stays a b mid new → Stays a b l new
stays-both s t = record { long = t.long ∙ s.long; below = λ j h. t.below j h ∙ s.below j h; past = λ j h. t.past j h ∙ s.past j h }

-- More bytes may have changed than did.
pub stays-wider : {a b c : ℕ} {l new : List ℕ} → b ≤ c → Stays a b l new → Stays a c l new
stays-wider d s = record { long = s.long; below = s.below; past = λ j h. s.past j (omega arith) }

-- A field that lies outside reads as before.
pub u16-below : {a b : ℕ} {l new : List ℕ} → Stays a b l new → (j : ℕ) → j + 1 < a → u16 new j ≡ u16 l j
unfolding u16
u16-below s j h = rw (s.below j (omega arith), s.below (j + 1) h)

pub u16-past : {a b : ℕ} {l new : List ℕ} → Stays a b l new → (j : ℕ) → b ≤ j → u16 new j ≡ u16 l j
unfolding u16
u16-past s j h = rw (s.past j h, s.past (j + 1) (omega arith))

-- ---- signed values
signed_low : (n : ℕ) → n < 32768 → signed16 n ≡ pos n
unfolding signed16
signed_low n l = rw (lt-ltb n 32768 l)

signed_high : (n : ℕ) → n ≤ 29999 → signed16 (65535 - n) ≡ negsuc n
unfolding signed16
signed_high n l =
    let e : 65536 - suc (65535 - n) ≡ n = omega arith in
    rw (le-ltb (65535 - n) 32768 (omega arith), lt-ltb (65535 - n) 65536 (omega arith)) (ap negsuc e)

pub unsigned_small : (z : ℤ) → FitsField z → unsigned z < field_limit
unsigned_small (pos n) f = let h : n ≤ 30000 = leb→le n 30000 f.high.le in omega arith
unsigned_small (negsuc n) f = omega arith

pub signed_back : (z : ℤ) → FitsField z → signed16 (unsigned z) ≡ z
signed_back (pos n) f = let h : n ≤ 30000 = leb→le n 30000 f.high.le in signed_low n (omega arith)
signed_back (negsuc n) f = signed_high n (leb→le n 29999 f.low.le)
