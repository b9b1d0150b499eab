-- Laws of `tab`, `passing` and `same_list`.
-- Assumes nothing.
use Prim.Native.Nat.{ℕ, zero, suc, ◌+◌, ◌<◌}
use mathlib.Core.Path.{◌≡◌, refl, sym, ap, ◌∙◌, subst}
use mathlib.Core.Logic.{⊎_elim}
use mathlib.Core.Bool.{Bool, true, false}
use mathlib.Core.List.{List, [], ◌∷◌, ◌++◌}
use native.Mathlib.Nat.{eq-or-lt_of_le, le_of_suc-le-suc, not-suc-le-zero, le_step, le_refl}
use native.Mathlib.Decide.{dec_lt}
use native.Mathlib.Numerals.{add-one}
use native.Mathlib.Omega.{arith}
use lib.ListN.{length, get_or, length-append, get_or-append}
use lib.Seq.{get_or_at, get_or-append_seam, ext_get_or}
use Rattle.folder.specs.Pick.{pick}
use Rattle.folder.specs.Tab.{tab, passing}

module _ {A : Type 0} where
  pub length-tab : (n : ℕ) (f : ℕ → A) → length (tab n f) ≡ n
  unfolding tab
  length-tab zero f = refl
  length-tab (suc n) f = rw (length-append, length-tab n f) (add-one n)

  pub get_or-tab : (d : A) (n : ℕ) (f : ℕ → A) (i : ℕ) → i < n → get_or (tab n f) i d ≡ f i
  unfolding tab
  get_or-tab d zero f i h = absurd (not-suc-le-zero h)
  get_or-tab d (suc n) f i h =
      ⊎_elim (λ e. rw e (get_or_at (tab n f) (f n) [] d n (length-tab n f)))
      (λ l. get_or-append (tab n f) (f n ∷ []) d i (rw (length-tab n f) l) ∙ get_or-tab d n f i l)
      (eq-or-lt_of_le (le_of_suc-le-suc h))

  -- Two functions with the same first n values.
  pub tab-same : (n : ℕ) (f g : ℕ → A) → ((i : ℕ) → i < n → f i ≡ g i) → tab n f ≡ tab n g
  unfolding tab
  tab-same zero f g h = refl
  tab-same (suc n) f g h = λ i. tab-same n f g (λ k l. h k (le_step l)) i ++ (h n (le_refl (suc n)) i ∷ [])

  -- A list by its own elements.
  pub tab-own : (d : A) (l : List A) → tab (length l) (λ i. get_or l i d) ≡ l
  tab-own d l = ext_get_or d _ l (length-tab (length l) _) (λ i h. get_or-tab d (length l) (λ k. get_or l k d) i (rw length-tab at h))

  -- What is read within a list does not hang on what is read past it.
  pub get_or-within : (l : List A) (i : ℕ) (d e : A) → i < length l → get_or l i d ≡ get_or l i e
  get_or-within [] i d e h = absurd (not-suc-le-zero h)
  get_or-within (x ∷ xs) zero d e h = refl
  get_or-within (x ∷ xs) (suc i) d e h = get_or-within xs i d e (le_of_suc-le-suc h)

  pub same-tab : (n : ℕ) (f g : ℕ → A) → tab n f ≡ tab n g → (i : ℕ) → i < n → f i ≡ g i
  same-tab n f g e i l = sym (get_or-tab (f 0) n f i l) ∙ ap (λ (t : List A). get_or t i (f 0)) e ∙ get_or-tab (f 0) n g i l

-- Entry e of a list of numbers below n is one that passes.
pub record PassAt (n : ℕ) (test : ℕ → Bool) (l : List ℕ) (e : ℕ) : Type 0 where
  pub small : get_or l e 0 < n
  pub passes : test (get_or l e 0) ≡ true

more-at : (n : ℕ) (test : ℕ → Bool) (l : List ℕ) → ((e : ℕ) → e < length l → PassAt n test l e)
    → (b : Bool) → test n ≡ b → (e : ℕ) → e < length (l ++ pick b (n ∷ []) []) → Dec (e < length l) → PassAt (suc n) test (l ++ pick b (n ∷ []) []) e
more-at n test l below b t e h (yes p) = record {
  small = rw (get_or-append l (pick b (n ∷ []) []) 0 e p) (le_step (below e p).small);
  passes = rw (get_or-append l (pick b (n ∷ []) []) 0 e p) (below e p).passes;
}
more-at n test l below true t e h (no g) =
    let q : e ≡ length l = omega (arith, length-append l (n ∷ [])) in
    record { small = rw (q, get_or-append_seam l n [] 0) (le_refl (suc n)); passes = rw (q, get_or-append_seam l n [] 0) t }
more-at n test l below false t e h (no g) = absurd (g (omega (arith, length-append l [])))

pub passing-at : (n : ℕ) (test : ℕ → Bool) (e : ℕ) → e < length (passing n test) → PassAt n test (passing n test) e
unfolding passing
passing-at zero test e h = absurd (not-suc-le-zero h)
passing-at (suc n) test e h = more-at n test (passing n test) (passing-at n test) (test n) refl e h (dec_lt e (length (passing n test)))

module _ (test : ℕ → Bool) where
  pub passing-more : (c : ℕ) (b : Bool) → test c ≡ b → passing (c + 1) test ≡ passing c test ++ pick b (c ∷ []) []
  unfolding passing
  passing-more c b e = rw (add-one, e)

  -- A number that passes is an entry, and stands after the lower ones.
  abbrev Stands : ℕ → ℕ → Type 0
  Stands c n = (length (passing c test) < length (passing n test)) × (get_or (passing n test) (length (passing c test)) 0 ≡ c)

  pub passing-stands : (c n : ℕ) → c < n → test c ≡ true → Stands c n
  unfolding passing
  passing-stands c zero l t = absurd (not-suc-le-zero l)
  passing-stands c (suc n) l t = ⊎_elim
      (λ e. subst (λ (k : ℕ). Stands c (suc k)) e (rw t (omega (arith, length-append (passing c test) (c ∷ [])), get_or-append_seam (passing c test) c [] 0)))
      (λ k. let h = passing-stands c n k t in (
        omega (arith, h.0, length-append (passing n test) (pick (test n) (n ∷ []) [])),
        get_or-append (passing n test) (pick (test n) (n ∷ []) []) 0 (length (passing c test)) h.0 ∙ h.1,
      ))
      (eq-or-lt_of_le (le_of_suc-le-suc l))

-- Two tests that agree on the numbers below n.
pub passing-same : (n : ℕ) (a b : ℕ → Bool) → ((k : ℕ) → k < n → a k ≡ b k) → passing n a ≡ passing n b
unfolding passing
passing-same zero a b h = refl
passing-same (suc n) a b h = λ i. passing-same n a b (λ k l. h k (le_step l)) i ++ pick (h n (le_refl (suc n)) i) (n ∷ []) []
