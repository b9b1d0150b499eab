-- How an entry reads by all states, whatever its sort, and what the combinations show of it.
-- Assumes nothing.
use Prim.Native.Nat.{ℕ, ◌<◌, ◌≤◌}
use mathlib.Core.Path.{◌≡◌, refl, sym, ap, ◌∙◌}
use mathlib.Core.Logic.{inl, inr}
use mathlib.Core.Bool.{Bool, true, false, false≢true}
use native.Mathlib.Omega.{arith}
use borrow.Author.Tests.{not-true, le-leb, lt-leb}
use lib.IntN.{ℤ, pos}
use Rattle.folder.proofs.Decides.{everywhere, unless}
use Rattle.whole.specs.Order.{eq_z}
use Rattle.whole.proofs.Order.{equal-decided}
use Rattle.expressions.specs.Limits.{most_combinations}
use Rattle.expressions.specs.Entries.{Entries, is_number, is_truth}
use Rattle.expressions.specs.Meaning.{State, number_in, truth_in}
use Rattle.expressions.specs.Reading.{known_truth, look_in}
use Rattle.expressions.specs.Right.{IsNumber, IsTruth, EntryRight}
use Rattle.expressions.specs.Combinations.{Label, Holds, Proper, combination}
use Rattle.expressions.specs.Mentions.{mentions}
use Rattle.expressions.specs.States.{ways, number_by, truth_by, number_by_all, truth_by_all, number_three, truth_three, number_read, truth_read}
use Rattle.expressions.specs.ThreeWay.{Number, Truth}
use Rattle.expressions.proofs.Decided.{number-decided, truth-decided}
use Rattle.expressions.proofs.Forms.{no_number, no_truth}
use Rattle.expressions.proofs.Sound.{known_is, true-is, false-is}
use Rattle.expressions.proofs.States.{same_truth_lem, says-number, says_truth, number-stays, truth-stays}
use Rattle.evaluate.specs.Settled.{as_number, content_of, entry_reading}
use Rattle.states.specs.Stated.{truth_number, entry_in}
use Rattle.states.specs.Read.{is_known_number, entry_read, reads_known}
use Rattle.states.proofs.Entries.{truth-back, entry-number, entry-truth}
use Rattle.std.specs.Prelude.{None, Some}

-- ---- an entry is of one of the sorts
pub truth-else : (x : Entries) (variables e : ℕ) → EntryRight x variables e → is_number x e ≡ false → IsTruth x e
truth-else x variables e right q = go (is_truth x e) refl
  where
    go : (b : Bool) → is_truth x e ≡ b → IsTruth x e
    go true t = (truth-decided x e).yes t
    go false t = elim right.form [ inl h ↦ absurd (rw (no_number x e q) at h) | inr h ↦ absurd (rw (no_truth x e t) at h) ]

known_so : (b : Bool) → is_known_number (as_number (known_truth b)) ≡ true
known_so true = refl
known_so false = refl

module _ (x : Entries) (L : Label) (e : ℕ) where
  pub read_number : IsNumber x e → entry_read x L e ≡ number_read x L e
  unfolding entry_read
  read_number i = rw ((number-decided x e).no i)

  pub read-truth : IsTruth x e → entry_read x L e ≡ as_number (truth_read x L e)
  unfolding entry_read
  read-truth i = rw (not-true (is_number x e) ((unless (number-decided x e)).no (λ n. omega arith)))

  three-number : IsNumber x e → entry_reading x (look_in L.tracked L.values) e ≡ number_three x L e
  unfolding entry_reading
  three-number i = rw ((number-decided x e).no i)

  three-truth : IsTruth x e → entry_reading x (look_in L.tracked L.values) e ≡ as_number (truth_three x L e)
  unfolding entry_reading
  three-truth i = rw (not-true (is_number x e) ((unless (number-decided x e)).no (λ n. omega arith)))

  -- The reading of either sort, of what holds of both.
  module _ (variables : ℕ) (right : EntryRight x variables e) where
    by-sort : {P : Type 0} → (IsNumber x e → P) → (IsTruth x e → P) → P
    by-sort {P} n t = go (is_number x e) refl
      where
        go : (b : Bool) → is_number x e ≡ b → P
        go true q = n ((number-decided x e).yes q)
        go false q = t (truth-else x variables e right q)

    -- ---- known three ways
    as-known : (t : Truth) (z : ℤ) → as_number t ≡ Some z → (b : Bool) × (t ≡ known_truth b)
    as-known (Some true) z h = (true, refl)
    as-known (Some false) z h = (false, refl)
    as-known None z h = absurd (let k : ◌≡◌ {A = ℕ} 0 1 = cc in omega arith)

    pub stays-known : Proper L → (z : ℤ) → entry_reading x (look_in L.tracked L.values) e ≡ Some z → reads_known x L e ≡ true
    stays-known P z h = by-sort
        (λ i. ap is_known_number (read_number i ∙ number-stays x L P e z (sym (three-number i) ∙ h)))
        (λ i.
        let w = as-known (truth_three x L e) z (sym (three-truth i) ∙ h) in
        ap is_known_number (read-truth i ∙ ap as_number (truth-stays x L P e w.0 w.1)) ∙ known_so w.0)

    -- It is that in every state of the label.
    module _ (P : Proper L) (s : State) (h : Holds L s) where
      truth-is : (b : Bool) → truth_read x L e ≡ known_truth b → truth_in x s e ≡ b
      truth-is true q = true-is (says_truth x L P e s h) q
      truth-is false q = false-is (says_truth x L P e s h) q

      as-content : (b : Bool) → truth_number b ≡ content_of (as_number (known_truth b))
      as-content true = refl
      as-content false = refl

      pub three-is : (z : ℤ) → entry_reading x (look_in L.tracked L.values) e ≡ Some z → entry_in x s e ≡ z
      three-is z q = by-sort
          (λ i. entry-number x s e i ∙ known_is z (says-number x L P e s h) (number-stays x L P e z (sym (three-number i) ∙ q)))
          (λ i.
          let w = as-known (truth_three x L e) z (sym (three-truth i) ∙ q) in
          entry-truth x s e i ∙ ap truth_number (truth-is w.0 (truth-stays x L P e w.0 w.1)) ∙ as-content w.0
          ∙ ap content_of (sym (ap as_number w.1) ∙ sym (three-truth i) ∙ q))

    -- ---- too many combinations
    number-above : most_combinations < ways x L e → number_read x L e ≡ number_three x L e
    unfolding number_read
    number-above many = rw (lt-leb (ways x L e) most_combinations many) refl

    truth-above : most_combinations < ways x L e → truth_read x L e ≡ truth_three x L e
    unfolding truth_read
    truth-above many = rw (lt-leb (ways x L e) most_combinations many) refl

    pub unknown-above : most_combinations < ways x L e → entry_reading x (look_in L.tracked L.values) e ≡ None → reads_known x L e ≡ false
    unknown-above many h = by-sort
        (λ i. ap is_known_number (read_number i ∙ number-above many ∙ sym (three-number i) ∙ h))
        (λ i. ap is_known_number (read-truth i ∙ ap as_number (truth-above many) ∙ sym (three-truth i) ∙ h))

    -- ---- all combinations agree
    number-agrees : ways x L e ≤ most_combinations → {z : ℤ} → ((j : ℕ) → j < ways x L e → number_by x L e j ≡ z) → 0 < ways x L e → is_known_number (number_read x L e) ≡ true
    unfolding number_read number_by_all
    number-agrees few h some =
        rw (
          le-leb (ways x L e) most_combinations few,
          (everywhere (ways x L e) (λ j l. equal-decided (number_by x L e j) (number_by x L e 0))).no (λ j l. h j l ∙ sym (h 0 some)),
        )
        refl

    truth-agrees : ways x L e ≤ most_combinations → {b : Bool} → ((j : ℕ) → j < ways x L e → truth_by x L e j ≡ b) → 0 < ways x L e → is_known_number (as_number (truth_read x L e)) ≡ true
    unfolding truth_read truth_by_all
    truth-agrees few h some =
        rw (
          le-leb (ways x L e) most_combinations few,
          (everywhere (ways x L e) (λ j l. same_truth_lem (truth_by x L e j) (truth_by x L e 0))).no (λ j l. h j l ∙ sym (h 0 some)),
        )
        (known_so (truth_by x L e 0))

    pub all_known : ways x L e ≤ most_combinations → 0 < ways x L e → (z : ℤ) → ((j : ℕ) → j < ways x L e → entry_in x (combination L (mentions x e) j) e ≡ z) → reads_known x L e ≡ true
    all_known few some z h = by-sort
        (λ i. ap is_known_number (read_number i) ∙ number-agrees few (λ j l. sym (entry-number x (combination L (mentions x e) j) e i) ∙ h j l) some)
        (λ i. ap is_known_number (read-truth i)
        ∙ truth-agrees few (λ j l. sym (truth-back (truth_by x L e j)) ∙ ap (λ (a : ℤ). eq_z a (pos 1)) (sym (entry-truth x (combination L (mentions x e) j) e i) ∙ h j l)) some)

    -- ---- what reads known is the same in all states of the label
    module _ (P : Proper L) (s s' : State) (h : Holds L s) (h' : Holds L s') where
      number_same : (a : Number) → number_read x L e ≡ a → is_known_number a ≡ true → number_in x s e ≡ number_in x s' e
      number_same (Some z) q k = known_is z (says-number x L P e s h) q ∙ sym (known_is z (says-number x L P e s' h') q)
      number_same None q k = absurd (false≢true k)

      truth-same : (a : Truth) → truth_read x L e ≡ a → is_known_number (as_number a) ≡ true → truth_in x s e ≡ truth_in x s' e
      truth-same (Some true) q k = true-is (says_truth x L P e s h) q ∙ sym (true-is (says_truth x L P e s' h') q)
      truth-same (Some false) q k = false-is (says_truth x L P e s h) q ∙ sym (false-is (says_truth x L P e s' h') q)
      truth-same None q k = absurd (false≢true k)

      pub known_same : reads_known x L e ≡ true → entry_in x s e ≡ entry_in x s' e
      known_same k = by-sort
          (λ i. entry-number x s e i ∙ number_same (number_read x L e) refl (sym (ap is_known_number (read_number i)) ∙ k) ∙ sym (entry-number x s' e i))
          (λ i. entry-truth x s e i ∙ ap truth_number (truth-same (truth_read x L e) refl (sym (ap is_known_number (read-truth i)) ∙ k)) ∙ sym (entry-truth x s' e i))
