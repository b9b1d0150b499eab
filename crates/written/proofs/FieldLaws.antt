-- Fields written and read back; lists one after the other.
-- Assumes nothing.
use Prim.Native.Nat.{ℕ, zero, suc, ◌+◌, ◌*◌, ◌/◌, ◌%◌, ◌<◌, ◌≤◌}
use mathlib.Core.Path.{◌≡◌, refl, ap, ◌∙◌}
use mathlib.Core.Logic.{◌⊎◌, inl, inr}
use mathlib.Core.List.{List, [], ◌∷◌, ◌++◌}
use native.Mathlib.Nat.{le_step, le_refl, eq-or-lt_of_le, le_of_suc-le-suc, not-suc-le-zero, div-add-mod', mod-eq_of_lt, mod-lt, div-lt_iff_lt-mul}
use native.Mathlib.Omega.{arith}
use lib.ListN.{length, get_or, length-append, get_or-append}
use lib.Seq.{get_or-append-add}
use Rattle.folder.specs.Fields.{field_limit, field4_limit, u16}
use Rattle.model.specs.Pedal.{fields}
use Rattle.written.specs.Bytes.{chain}

-- ---- one field
pub two_back : (n : ℕ) → n < field_limit → n % 256 + n / 256 % 256 * 256 ≡ n
two_back n l =
    let h : n / 256 < 256 = (div-lt_iff_lt-mul {k = 256} {x = n} {y = 256} (omega arith)).1 (omega arith) in
    let e : n / 256 % 256 ≡ n / 256 = mod-eq_of_lt h in
    rw e (omega (arith, div-add-mod' n 256))

-- ---- the fields of a body
double : (k : ℕ) → 2 * suc k ≡ suc (suc (2 * k))
double k = omega arith

pub length_fields : (l : List ℕ) → length (fields l) ≡ 2 * length l
length_fields [] = refl
length_fields (x ∷ xs) = rw (double (length xs)) (ap (λ (n : ℕ). suc (suc n)) (length_fields xs))

u16-past : (a b : ℕ) (s : List ℕ) (k : ℕ) → u16 (a ∷ b ∷ s) (suc (suc k)) ≡ u16 s k
unfolding u16
u16-past a b s k = let e : suc (suc k) + 1 ≡ suc (suc (k + 1)) = omega arith in rw e

pub u16-fields : (l : List ℕ) (k : ℕ) → get_or l k 0 < field_limit → u16 (fields l) (2 * k) ≡ get_or l k 0
unfolding u16
u16-fields [] k h = refl
u16-fields (x ∷ xs) zero h = two_back x h
u16-fields (x ∷ xs) (suc k) h = ap (u16 (fields (x ∷ xs))) (double k) ∙ u16-past (x % 256) (x / 256 % 256) (fields xs) (2 * k) ∙ u16-fields xs k h

-- ---- lists one after the other
-- Each equal to another's.
pub chain_same : (n : ℕ) (f g : ℕ → List ℕ) → ((i : ℕ) → i < n → f i ≡ g i) → chain n f ≡ chain n g
unfolding chain
chain_same zero f g h = refl
chain_same (suc n) f g h = λ i. chain_same n f g (λ k l. h k (le_step l)) i ++ h n (le_refl (suc n)) i

module _ (f : ℕ → List ℕ) where
  pub chain-within : (n i : ℕ) → i < n → length (chain i f) + length (f i) ≤ length (chain n f)
  unfolding chain
  chain-within zero i l = absurd (not-suc-le-zero l)
  chain-within (suc n) i l = go (λ m. chain-within n i m) (eq-or-lt_of_le (le_of_suc-le-suc l))
    where
      go : (i < n → length (chain i f) + length (f i) ≤ length (chain n f)) → (i ≡ n) ⊎ (i < n) → length (chain i f) + length (f i) ≤ length (chain n f ++ f n)
      go below (inl q) = rw (q, length-append) (omega arith)
      go below (inr m) = rw length-append (omega (arith, below m))

  pub chain-at : (n i j : ℕ) → i < n → j < length (f i) → get_or (chain n f) (length (chain i f) + j) 0 ≡ get_or (f i) j 0
  unfolding chain
  chain-at zero i j l h = absurd (not-suc-le-zero l)
  chain-at (suc n) i j l h = go (λ m. chain-at n i j m h) (eq-or-lt_of_le (le_of_suc-le-suc l))
    where
      go : (i < n → get_or (chain n f) (length (chain i f) + j) 0 ≡ get_or (f i) j 0) → (i ≡ n) ⊎ (i < n) → get_or (chain n f ++ f n) (length (chain i f) + j) 0 ≡ get_or (f i) j 0
      go below (inl q) = rw q (get_or-append-add (chain n f) (f n) j 0)
      go below (inr m) = get_or-append (chain n f) (f n) 0 (length (chain i f) + j) (omega (arith, chain-within n i m)) ∙ below m

  pub chain-suc : (n : ℕ) → length (chain (suc n) f) ≡ length (chain n f) + length (f n)
  unfolding chain
  chain-suc n = length-append (chain n f) (f n)

  pub chain-wide : (w n : ℕ) → ((i : ℕ) → length (f i) ≡ w) → length (chain n f) ≡ w * n
  unfolding chain
  chain-wide w zero h = omega arith
  chain-wide w (suc n) h = rw length-append (omega (arith, chain-wide w n h, h n))

-- ---- a value of two fields, and the contents' entries
pub word_back : (n : ℕ) → n % field_limit + n / field_limit * field_limit ≡ n
word_back n = omega (arith, div-add-mod' n field_limit)

pub high_small : (n : ℕ) → n < field4_limit → n / field_limit < field_limit
high_small n l = (div-lt_iff_lt-mul {k = field_limit} {x = n} {y = field_limit} (omega arith)).1 (omega arith)

pub four-back : (n : ℕ) → n < field4_limit
    → (n % field_limit % 256 + n % field_limit / 256 % 256 * 256) + (n / field_limit % 256 + n / field_limit / 256 % 256 * 256) * field_limit ≡ n
four-back n l =
    let low : n % field_limit < field_limit = mod-lt n (omega arith) in
    rw (two_back (n % field_limit) low, two_back (n / field_limit) (high_small n l)) (word_back n)
