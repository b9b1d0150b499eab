-- Laws of a loop that lists the numbers below n that pass a test, at the front of a row.
-- Assumes nothing.
use Prim.Native.Nat.{ℕ, zero, suc, ◌+◌, ◌≤◌, ◌<◌, zero-le}
use mathlib.Core.Path.{◌≡◌, refl, sym, ap, ◌∙◌}
use mathlib.Core.Bool.{Bool, true, false}
use mathlib.Core.List.{List, [], ◌∷◌, ◌++◌, append_assoc, append-nil}
use native.Mathlib.Nat.{not-suc-le-zero}
use native.Mathlib.Decide.{dec_lt}
use native.Mathlib.Numerals.{add-one}
use native.Mathlib.Omega.{arith}
use lib.ListN.{length, get_or, drop, set, length-append, length-set, get_or-append}
use lib.Seq.{drop-cons, set_at, get_or-append_seam}
use Rattle.folder.specs.Pick.{pick}
use Rattle.folder.specs.Tab.{passing}

module _ (test : ℕ → Bool) where
  passing-yes : (n : ℕ) → test n ≡ true → passing (n + 1) test ≡ passing n test ++ (n ∷ [])
  unfolding passing
  passing-yes n e = rw (add-one n, e) refl

  passing-no : (n : ℕ) → test n ≡ false → passing (n + 1) test ≡ passing n test
  unfolding passing
  passing-no n e = rw (add-one n, e) (append-nil (passing n test))

  pub passing-few : (n : ℕ) → length (passing n test) ≤ n
  unfolding passing
  passing-few zero = zero-le
  passing-few (suc n) = omega (arith, length-append (passing n test) (pick (test n) (n ∷ []) []), one (test n), passing-few n)
    where
      one : (b : Bool) → length (pick b (n ∷ []) []) ≤ 1
      one true = omega arith
      one false = omega arith

  -- A number in the list stands after as many as are lower and pass.
  pub passing-place : (n e : ℕ) → e < length (passing n test) → length (passing (get_or (passing n test) e 0) test) ≡ e
  unfolding passing
  passing-place zero e l = absurd (not-suc-le-zero l)
  passing-place (suc n) e l = go (λ k. passing-place n e k) (test n) l (dec_lt e (length (passing n test)))
    where
      go : (e < length (passing n test) → length (passing (get_or (passing n test) e 0) test) ≡ e) → (b : Bool) → e < length (passing n test ++ pick b (n ∷ []) []) → Dec (e < length (passing n test)) → length (passing (get_or (passing n test ++ pick b (n ∷ []) []) e 0) test) ≡ e
      go i b h (yes k) = ap (λ (d : ℕ). length (passing d test)) (get_or-append (passing n test) (pick b (n ∷ []) []) 0 e k) ∙ i k
      go f true h (no g) =
          let q : e ≡ length (passing n test) = omega (arith, length-append (passing n test) (n ∷ [])) in
          ap (λ (d : ℕ). length (passing d test)) (ap (λ (i : ℕ). get_or (passing n test ++ (n ∷ [])) i 0) q ∙ get_or-append_seam (passing n test) n [] 0) ∙ sym q
      go f false h (no g) = absurd (g (omega (arith, length-append (passing n test) [])))

-- A row that begins with a list.
abbrev over : List ℕ → List ℕ → List ℕ
over l row = l ++ drop (length l) row

over-more : (l : List ℕ) (n : ℕ) (row : List ℕ) → length l < length row → set (over l row) (length l) n ≡ over (l ++ (n ∷ [])) row
over-more l n row h =
    let k : length (l ++ (n ∷ [])) ≡ suc (length l) = length-append l (n ∷ []) ∙ add-one (length l) in
    rw (k, append_assoc, drop-cons row (length l) 0) (set_at l (get_or row (length l) 0) (drop (suc (length l)) row) n (length l) refl)

-- Of the numbers below n those that pass are listed in the row, and they are `count`.
pub record Listed (test : ℕ → Bool) (most : ℕ) (row₀ row : List ℕ) (n count : ℕ) : Type 0 where
  pub within : n ≤ most
  pub counted : count ≡ length (passing n test)
  pub long : length row ≡ length row₀
  pub is : row ≡ over (passing n test) row₀

pub list-start : (test : ℕ → Bool) (most : ℕ) (row : List ℕ) → Listed test most row row 0 0
unfolding passing
list-start test most row = record { within = zero-le; counted = refl; long = refl; is = refl }

module _ {test : ℕ → Bool} {most : ℕ} {row₀ row : List ℕ} {n count : ℕ} (h : Listed test most row₀ row n count) where
  -- There is room for one more.
  pub list-room : n < most → most ≤ length row₀ → count < length row
  list-room l m = omega (arith, passing-few test n, h.counted, h.long)

  next-by : (b : Bool) → test n ≡ b → n < most → most ≤ length row₀ → {after : List ℕ} {more : ℕ}
      → more ≡ pick (test n) (count + 1) count → after ≡ pick (test n) (set row count n) row → Listed test most row₀ after (n + 1) more
  next-by true e l m {after} p q = record {
    within = omega arith;
    counted = p ∙ rw (e, passing-yes test n e, length-append (passing n test) (n ∷ [])) (ap (λ (k : ℕ). k + 1) h.counted);
    long = ap length q ∙ rw e (length-set row count n ∙ h.long);
    is = q ∙ rw (e, passing-yes test n e, h.counted, h.is) (over-more (passing n test) n row₀ (omega (arith, passing-few test n)));
  }
  next-by false e l m p q = record {
    within = omega arith;
    counted = p ∙ rw (e, passing-no test n e) h.counted;
    long = ap length q ∙ rw e h.long;
    is = q ∙ rw (e, passing-no test n e) h.is;
  }

  pub list-next : n < most → most ≤ length row₀ → {after : List ℕ} {more : ℕ}
      → more ≡ pick (test n) (count + 1) count → after ≡ pick (test n) (set row count n) row → Listed test most row₀ after (n + 1) more
  list-next l m p q = next-by (test n) refl l m p q

  at-end : {k : ℕ} → most ≤ n → most ≡ k → n ≡ k
  at-end l e = omega (arith, h.within)

  pub list_count : {k : ℕ} → most ≤ n → most ≡ k → count ≡ length (passing k test)
  list_count l e = h.counted ∙ ap (λ (j : ℕ). length (passing j test)) (at-end l e)

  pub list_over : {k : ℕ} → most ≤ n → most ≡ k → row ≡ over (passing k test) row₀
  list_over l e = h.is ∙ ap (λ (j : ℕ). over (passing j test) row₀) (at-end l e)
