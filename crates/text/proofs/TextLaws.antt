-- Laws of text written over a part of a list.
-- Assumes nothing.
use Prim.Native.Nat.{ℕ, zero, suc, ◌+◌, ◌-◌, ◌/◌, ◌%◌, ◌≤◌, ◌<◌}
use mathlib.Core.Path.{◌≡◌, refl, sym, ap, ◌∙◌}
use mathlib.Core.List.{List, [], ◌∷◌, ◌++◌, append_assoc}
use native.Mathlib.Nat.{add-zero}
use native.Mathlib.Numerals.{sub-one}
use native.Mathlib.Omega.{arith}
use borrow.Author.Tests.{lt-ltb, le-ltb}
use lib.Dec.{ltb}
use lib.ListN.{length, take, drop, set, get_or, length-append, length-take, length-drop}
use lib.Seq.{paste-zero, set_at, drop-cons, append_snoc, length-take-le, take_at, drop_at, drop-drop}
use Rattle.folder.proofs.PickLaws.{pick_all}
use Rattle.text.specs.Text.{decimal_within, written, Holds}

-- ---- digits
module _ (n : ℕ) where
  pub no_digit : (left : ℕ) → left ≡ 0 → decimal_within left n ≡ []
  unfolding decimal_within
  no_digit left e = rw e refl

  pub last-digit : (left : ℕ) → (left ≡ 0 → ⊥) → n < 10 → decimal_within left n ≡ (48 + n) ∷ []
  unfolding decimal_within
  last-digit zero h l = absurd (h refl)
  last-digit (suc k) h l = rw (lt-ltb n 10 l)

  pub more-digits : (left : ℕ) → (left ≡ 0 → ⊥) → 10 ≤ n → decimal_within left n ≡ decimal_within (left - 1) (n / 10) ++ ((48 + n % 10) ∷ [])
  unfolding decimal_within
  more-digits zero h l = absurd (h refl)
  more-digits (suc k) h l = rw (sub-one, le-ltb n 10 l)

pub digits-few : (k n : ℕ) → length (decimal_within k n) ≤ k
unfolding decimal_within
digits-few zero n = omega arith
digits-few (suc k) n = pick_all (λ (l : List ℕ). length l ≤ suc k) (ltb n 10) (omega arith)
    (omega (arith, digits-few k (n / 10), length-append (decimal_within k (n / 10)) ((48 + n % 10) ∷ [])))

-- ---- nothing written, and one byte more
pub written_none : (out : List ℕ) (at : ℕ) → out ≡ written out at []
written_none out at = paste-zero out at []

pub written-more : (out : List ℕ) (at : ℕ) (s : List ℕ) (d : ℕ) → at + length s < length out → set (written out at s) (at + length s) d ≡ written out at (s ++ (d ∷ []))
written-more out at s d h =
    let p : List ℕ = take at out ++ s in
    let q : suc (at + length s) ≡ at + length (s ++ (d ∷ [])) = omega (arith, length-append s (d ∷ [])) in
    let e : length p ≡ at + length s = length-append (take at out) s ∙ ap (λ (k : ℕ). k + length s) (length-take-le at out (omega arith)) in
    ap (λ (t : List ℕ). set (p ++ t) (at + length s) d) (drop-cons out (at + length s) 0 h)
    ∙ set_at p (get_or out (at + length s) 0) (drop (suc (at + length s)) out) d (at + length s) e
    ∙ sym (append_snoc p d (drop (suc (at + length s)) out))
    ∙ ap (λ (t : List ℕ). t ++ drop (suc (at + length s)) out) (append_assoc (take at out) s (d ∷ []))
    ∙ ap (λ (k : ℕ). take at out ++ (s ++ (d ∷ [])) ++ drop k out) q

pub length-written : (out : List ℕ) (at : ℕ) (s : List ℕ) → at + length s ≤ length out → length (written out at s) ≡ length out
length-written out at s h = simp (length-append, length-take, length-drop) (omega arith)

-- ---- text after text
pub holds-none : (out : List ℕ) → Holds out [] out 0
holds-none out = record { same = refl; ends = refl; long = refl }

pub holds_more : {out₀ p out : List ℕ} {at : ℕ} → Holds out₀ p out at → (s : List ℕ) {out' : List ℕ} {at' : ℕ} → at + length s ≤ length out₀ → at' ≡ at + length s → out' ≡ written out at s
    → Holds out₀ (p ++ s) out' at'
holds_more {out₀} {p} {out} {at} h s {out'} {at'} room e w =
    let t : take at out ≡ p = ap (take at) h.same ∙ take_at p (drop (length p) out₀) at (sym h.ends) in
    let r : drop (at + length s) out ≡ drop (length (p ++ s)) out₀ =
    sym (drop-drop (length s) at out) ∙ ap (λ (l : List ℕ). drop (length s) (drop at l)) h.same ∙ ap (drop (length s)) (drop_at p (drop (length p) out₀) at (sym h.ends))
    ∙ drop-drop (length s) (length p) out₀ ∙ ap (λ (k : ℕ). drop k out₀) (sym (length-append p s)) in
    record {
      same = w ∙ (λ i. t i ++ s ++ r i);
      ends = e ∙ ap (λ (k : ℕ). k + length s) h.ends ∙ sym (length-append p s);
      long = ap length w ∙ length-written out at s (omega (arith, h.long)) ∙ h.long;
    }

-- ---- the digits of n, as the code writes them: none left, the last one, and one more after the others
module _ (out : List ℕ) (at n left : ℕ) where
  abbrev Put : ℕ → List ℕ → Type 0
  Put r out' = (r ≡ at + length (decimal_within left n)) × (out' ≡ written out at (decimal_within left n))

  pub put-none : left ≡ 0 → Put at out
  put-none e = rw (no_digit n left e) (omega arith, written_none out at)

  pub put_last : (left ≡ 0 → ⊥) → n < 10 → at < length out → Put (at + 1) (set out at (48 + n))
  put_last h l room = rw (last-digit n left h l)
      (omega arith, ap (λ (t : List ℕ). set t at (48 + n)) (written_none out at) ∙ ap (λ (k : ℕ). set (written out at []) k (48 + n)) (sym (add-zero at)) ∙ written-more out at [] (48 + n) (omega arith))

  module _ {k : ℕ} {out' : List ℕ} (h : left ≡ 0 → ⊥) (l : 10 ≤ n) (room : at + left ≤ length out) (e : k ≡ at + length (decimal_within (left - 1) (n / 10)))
      (w : out' ≡ written out at (decimal_within (left - 1) (n / 10))) where
    pub room-here : k < length out'
    room-here = omega (arith, digits-few (left - 1) (n / 10), ap length w, length-written out at (decimal_within (left - 1) (n / 10)) (omega (arith, digits-few (left - 1) (n / 10))))

    pub put-more : Put (k + 1) (set out' k (48 + n % 10))
    put-more = rw (more-digits n left h l) (
      omega (arith, length-append (decimal_within (left - 1) (n / 10)) ((48 + n % 10) ∷ [])),
      rw (w, e) (written-more out at (decimal_within (left - 1) (n / 10)) (48 + n % 10) (omega (arith, digits-few (left - 1) (n / 10)))),
    )

-- Two texts, one after the other, are written as one.
pub written_then : (out : List ℕ) (at : ℕ) (a b : List ℕ) → at + length a ≤ length out → written (written out at a) (at + length a) b ≡ written out at (a ++ b)
written_then out at a b h =
    let p : List ℕ = take at out ++ a in
    let rest : List ℕ = drop (at + length a) out in
    let e : length p ≡ at + length a = length-append (take at out) a ∙ ap (λ (k : ℕ). k + length a) (length-take-le at out (omega arith)) in
    let q : drop (at + length a + length b) (p ++ rest) ≡ drop (at + length (a ++ b)) out =
    sym (drop-drop (length b) (at + length a) (p ++ rest)) ∙ ap (drop (length b)) (drop_at p rest (at + length a) e) ∙ drop-drop (length b) (at + length a) out
    ∙ ap (λ (k : ℕ). drop k out) (sym-of at (length a) (length b) (length-append a b)) in
    (λ i. take_at p rest (at + length a) e i ++ b ++ q i) ∙ ap (λ (t : List ℕ). t ++ drop (at + length (a ++ b)) out) (append_assoc (take at out) a b)
  where
    sym-of : (x y z : ℕ) {w : ℕ} → w ≡ y + z → x + y + z ≡ x + w
    sym-of x y z e = omega arith

-- A text a and then a text b, as two calls write them.
pub put_both : (out : List ℕ) (at most : ℕ) (a b : List ℕ) {k r : ℕ} {out₁ out₂ : List ℕ} → at + most ≤ length out → k ≡ at + length a → out₁ ≡ written out at a → k ≤ at + most
    → r ≡ k + length b → out₂ ≡ written out₁ k b → (r ≡ at + length (a ++ b)) × (out₂ ≡ written out at (a ++ b)) × (r ≤ at + length b + most)
put_both out at most a b room e1 w1 l e2 w2 = (
  omega (arith, length-append a b),
  w2 ∙ (λ i. written (w1 i) (e1 i) b) ∙ written_then out at a b (omega arith),
  omega arith,
)
