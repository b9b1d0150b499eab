-- Laws of scans: what `first_bad` says, and the four facts of a scan in the code.
-- Assumes nothing.
use Prim.Native.Nat.{ℕ, zero, suc, ◌+◌, ◌≤◌, ◌<◌, zero-le}
use mathlib.Core.Path.{◌≡◌, refl, sym, ap, ◌∙◌, subst}
use mathlib.Core.Bool.{Bool, true, false, false≢true}
use mathlib.Core.Logic.{◌⊎◌, inl, inr, ⊎_elim}
use native.Mathlib.Nat.{le_of_suc-le-suc, eq-or-lt_of_le, not-suc-le-zero, le_refl, lt_irrefl}
use native.Mathlib.Decide.{dec_le}
use native.Mathlib.Numerals.{add-one}
use native.Mathlib.Omega.{arith}
use borrow.Author.Count.{below_more}
use borrow.Author.Tests.{eq-eqb, ne_eqb, eqb-true}
use Rattle.folder.specs.Scan.{first_bad, all}

bool_cases : (b : Bool) → (b ≡ true) ⊎ (b ≡ false)
bool_cases true = inl refl
bool_cases false = inr refl

module _ (ok : ℕ → Bool) where
  -- a loop that counts i up: its invariant is `first_bad ok i ≡ i`
  pub scan-none : first_bad ok 0 ≡ 0
  unfolding first_bad
  scan-none = refl

  scan-suc : (i : ℕ) → first_bad ok i ≡ i → ok i ≡ true → first_bad ok (suc i) ≡ suc i
  unfolding first_bad
  scan-suc i e h = simp (e, eq-eqb i i refl, h)

  pub scan-more : (i : ℕ) → first_bad ok i ≡ i → ok i ≡ true → first_bad ok (i + 1) ≡ i + 1
  scan-more i e h = rw add-one (scan-suc i e h)

  stop-here : (i : ℕ) → first_bad ok i ≡ i → ok i ≡ false → first_bad ok (suc i) ≡ i
  unfolding first_bad
  stop-here i e h = simp (e, eq-eqb i i refl, h)

  stop-later : (i n : ℕ) → first_bad ok n ≡ i → i < n → first_bad ok (suc n) ≡ i
  unfolding first_bad
  stop-later i n e l = simp (e, ne_eqb i n (λ q. omega arith))

  pub scan-stop : (i n : ℕ) → first_bad ok i ≡ i → ok i ≡ false → i < n → first_bad ok n ≡ i
  scan-stop i zero e h l = absurd (not-suc-le-zero l)
  scan-stop i (suc n) e h l =
      ⊎_elim (λ q. subst (λ (k : ℕ). first_bad ok (suc k) ≡ i) q (stop-here i e h))
      (λ m. stop-later i n (scan-stop i n e h m) m)
      (eq-or-lt_of_le (le_of_suc-le-suc l))

  -- what it says of the places: it is at most n, every place before it is ok, and at it, below n, none is
  pub record Found (n r : ℕ) : Type 0 where
    pub within : r ≤ n
    pub before : (k : ℕ) → k < r → ok k ≡ true
    pub broken : r < n → ok r ≡ false

  found-zero : Found 0 (first_bad ok 0)
  unfolding first_bad
  found-zero = record { within = zero-le; before = λ k l. absurd (not-suc-le-zero l); broken = λ l. absurd (not-suc-le-zero l) }

  -- all of the first n are ok: by the test at n
  found-end : (n : ℕ) → ((k : ℕ) → k < n → ok k ≡ true) → first_bad ok n ≡ n → (ok n ≡ true) ⊎ (ok n ≡ false) → Found (suc n) (first_bad ok (suc n))
  found-end n b q (inl h) =
      rw (scan-suc n q h) (record { within = le_refl (suc n); before = rw add-one at (below_more (λ k. ok k ≡ true) n b h); broken = λ l. absurd (lt_irrefl (suc n) l) })
  found-end n b q (inr h) = rw (stop-here n q h) (record { within = omega arith; before = b; broken = λ l. h })

  found-suc : (n : ℕ) → Found n (first_bad ok n) → (first_bad ok n ≡ n) ⊎ (first_bad ok n < n) → Found (suc n) (first_bad ok (suc n))
  found-suc n f (inl q) = found-end n (rw q at f.before) q (bool_cases (ok n))
  found-suc n f (inr l) =
      rw (stop-later (first_bad ok n) n refl l) (record { within = omega arith; before = f.before; broken = λ m. f.broken l })

  pub found : (n : ℕ) → Found n (first_bad ok n)
  found zero = found-zero
  found (suc n) = found-suc n (found n) (eq-or-lt_of_le (found n).within)

  -- a scan of n places that came to its end
  pub all-passed : (n : ℕ) {p : ℕ} → p ≡ first_bad ok n → n ≤ p → (k : ℕ) → k < n → ok k ≡ true
  all-passed n e l k h = (found n).before k (omega arith)

  pub all_true : (n : ℕ) → all ok n ≡ true → (k : ℕ) → k < n → ok k ≡ true
  all_true n h = all-passed n (sym (eqb-true _ _ h)) (le_refl n)

  -- a scan that not all places pass stops below the last
  pub stops-below : (n : ℕ) → all ok n ≡ false → first_bad ok n < n
  stops-below n e = ⊎_elim (λ q. absurd (false≢true (sym e ∙ eq-eqb (first_bad ok n) n q))) (λ l. l) (eq-or-lt_of_le (found n).within)

  -- the other way
  pub all_found : (n : ℕ) → ((k : ℕ) → k < n → ok k ≡ true) → first_bad ok n ≡ n
  all_found zero h = scan-none
  all_found (suc n) h = scan-suc n (all_found n (λ k l. h k (omega arith))) (h n (omega arith))

  pub all_of : (n : ℕ) → ((k : ℕ) → k < n → ok k ≡ true) → all ok n ≡ true
  all_of n h = eq-eqb (first_bad ok n) n (all_found n h)

  -- one place that is not ok is enough
  pub not-all : (n k : ℕ) → k < n → ok k ≡ false → all ok n ≡ false
  not-all n k l e = ⊎_elim (λ t. absurd (false≢true (sym e ∙ all_true n t k l))) (λ f. f) (bool_cases (all ok n))

  pub found_at : (n p : ℕ) → p < n → ((k : ℕ) → k < p → ok k ≡ true) → ok p ≡ false → first_bad ok n ≡ p
  found_at n p l b h = scan-stop p n (all_found p b) h l

  -- it is no later than a place that is not ok
  pub stops-by : (n k : ℕ) → k < n → ok k ≡ false → first_bad ok n ≤ k
  stops-by n k l e = elim (dec_le (first_bad ok n) k) [
    | yes h ↦ h
    | no g ↦ absurd (false≢true (sym e ∙ (found n).before k (omega arith)))
  ]

-- two tests that agree
pub first-same : (a b : ℕ → Bool) (n : ℕ) → ((k : ℕ) → k < n → a k ≡ b k) → first_bad a n ≡ first_bad b n
first-same a b n h = go (eq-or-lt_of_le (found b n).within)
  where
    go : (first_bad b n ≡ n) ⊎ (first_bad b n < n) → first_bad a n ≡ first_bad b n
    go (inl e) = all_found a n (λ k l. h k l ∙ (found b n).before k (rw e l)) ∙ sym e
    go (inr l) = found_at a n (first_bad b n) l (λ k m. h k (omega arith) ∙ (found b n).before k m) (h (first_bad b n) l ∙ (found b n).broken l)

-- a test that passes no more than another, which fails too where the first one does first
pub first-weaker : (a b : ℕ → Bool) (n : ℕ) → ((k : ℕ) → k < n → a k ≡ true → b k ≡ true) → (first_bad a n < n → b (first_bad a n) ≡ false) → first_bad a n ≡ first_bad b n
first-weaker a b n h f = go (eq-or-lt_of_le (found a n).within)
  where
    go : (first_bad a n ≡ n) ⊎ (first_bad a n < n) → first_bad a n ≡ first_bad b n
    go (inl e) = e ∙ sym (all_found b n (λ k l. h k l ((found a n).before k (rw e l))))
    go (inr l) = sym (found_at b n (first_bad a n) l (λ k m. h k (omega arith) ((found a n).before k m)) (f l))

-- ---- the four facts of a scan in the code, `while i < n { if ok(i) { i += 1 } else { return i } } i`, whose invariant is `Scanned ok n i`; t is what the code's test of place i answers
pub record Scanned (ok : ℕ → Bool) (n i : ℕ) : Type 0 where
  pub within : i ≤ n
  pub passed : first_bad ok i ≡ i

pub scan-start : (ok : ℕ → Bool) (n : ℕ) → Scanned ok n 0
scan-start ok n = record { within = zero-le; passed = scan-none ok }

module _ {ok : ℕ → Bool} {n i : ℕ} (s : Scanned ok n i) where
  pub scan-next : {t : Bool} → i < n → t ≡ ok i → t ≡ true → Scanned ok n (i + 1)
  scan-next l e h = record { within = omega arith; passed = scan-more ok i s.passed (sym e ∙ h) }

  pub scan-found : {t : Bool} → i < n → t ≡ ok i → t ≡ false → i ≡ first_bad ok n
  scan-found l e h = sym (scan-stop ok i n s.passed (sym e ∙ h) l)

  pub scan-over : n ≤ i → i ≡ first_bad ok n
  scan-over l =
      let q : i ≡ n = omega arith in
      sym s.passed ∙ ap (first_bad ok) q

-- ---- a scan that answers whether all places pass: `.. else { return false } } true`
module _ {ok : ℕ → Bool} {n i : ℕ} (s : Scanned ok n i) where
  pub all-fails : {t : Bool} → i < n → t ≡ ok i → t ≡ false → false ≡ all ok n
  all-fails l e h =
      let q = scan-found s l e h in
      sym (ne_eqb _ n (λ p. omega (arith, q)))

  pub all_pass : n ≤ i → true ≡ all ok n
  all_pass l =
      let q = scan-over s l in
      sym (eq-eqb _ n (omega (arith, q, s.within)))

-- ---- a row with one place
pub only-is : {p : ℕ} {a b : Bool} → p ≡ first_bad (λ x. a) 1 → a ≡ b → p ≡ first_bad (λ x. b) 1
only-is e q = e ∙ ap (λ (t : Bool). first_bad (λ x. t) 1) q

pub only-true : {p : ℕ} {b : Bool} → p ≡ first_bad (λ x. b) 1 → 1 ≤ p → b ≡ true
only-true {b = b} e l = all-passed (λ x. b) 1 e l 0 (omega arith)

pub found-le : (ok : ℕ → Bool) (n : ℕ) {p : ℕ} → p ≡ first_bad ok n → p ≤ n
found-le ok n e = rw e (found ok n).within
