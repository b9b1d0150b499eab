-- An entry has the form of its sort only, and there it is right.
-- Assumes nothing.
use Prim.Native.Nat.{ℕ, ◌<◌, ◌≤◌}
use mathlib.Core.Path.{◌≡◌, refl, sym, ◌∙◌}
use mathlib.Core.Bool.{Bool, true, false, ◌&&◌, false≢true}
use mathlib.Core.Logic.{inl, inr}
use native.Mathlib.Omega.{arith}
use borrow.Author.Tests.{leb-false, ne_eqb, not-true}
use lib.Dec.{ltb, leb}
use Rattle.folder.specs.Pick.{pick}
use Rattle.folder.proofs.Decides.{at_most, ◌∧also◌, unless}
use Rattle.expressions.specs.Entries.{Entries, number_form_of, truth_form_of, number_form, truth_form, is_number, is_truth}
use Rattle.expressions.specs.Right.{IsNumber, IsTruth, NumberRight, TruthRight}
use Rattle.expressions.specs.declared.NumberForm.TheVariants.{NoNumber}
use Rattle.expressions.specs.declared.TruthForm.TheVariants.{NoTruth}
use Rattle.expressions.proofs.Decided.{FormRight, number-decided, truth-decided}

-- An operation that gives no number, and one that gives no truth.
number-none : (o a b c : ℕ) → leb o 7 ≡ false → number_form_of o a b c ≡ NoNumber
unfolding number_form_of
number-none o a b c l =
    let h : 7 < o = leb-false o 7 l in
    rw (
      ne_eqb o 0 (omega arith),
      ne_eqb o 1 (omega arith),
      ne_eqb o 2 (omega arith),
      ne_eqb o 3 (omega arith),
      ne_eqb o 4 (omega arith),
      ne_eqb o 5 (omega arith),
      ne_eqb o 6 (omega arith),
      ne_eqb o 7 (omega arith),
    )

truth-none : (o a b : ℕ) → (leb 8 o && leb o 14) ≡ false → truth_form_of o a b ≡ NoTruth
unfolding truth_form_of
truth-none o a b l =
    rw (
      ne_eqb o 8 (λ q. out (omega arith)),
      ne_eqb o 9 (λ q. out (omega arith)),
      ne_eqb o 10 (λ q. out (omega arith)),
      ne_eqb o 11 (λ q. out (omega arith)),
      ne_eqb o 12 (λ q. out (omega arith)),
      ne_eqb o 13 (λ q. out (omega arith)),
      ne_eqb o 14 (λ q. out (omega arith)),
    )
  where
    out : (8 ≤ o) × (o ≤ 14) → ⊥
    out h = false≢true (sym l ∙ (at_most 8 o ∧also at_most o 14).no h)

module _ (x : Entries) (e : ℕ) where
  pub no_number : is_number x e ≡ false → number_form x e ≡ NoNumber
  unfolding is_number number_form
  no_number h = go (ltb e x.count) h
    where
      go : (t : Bool) → (t && leb (x.operation e) 7) ≡ false → pick t (number_form_of (x.operation e) (x.first e) (x.second e) (x.third e)) NoNumber ≡ NoNumber
      go true l = number-none (x.operation e) (x.first e) (x.second e) (x.third e) l
      go false l = refl

  pub no_truth : is_truth x e ≡ false → truth_form x e ≡ NoTruth
  unfolding is_truth truth_form
  no_truth h = go (ltb e x.count) h
    where
      go : (t : Bool) → (t && (leb 8 (x.operation e) && leb (x.operation e) 14)) ≡ false → pick t (truth_form_of (x.operation e) (x.first e) (x.second e)) NoTruth ≡ NoTruth
      go true l = truth-none (x.operation e) (x.first e) (x.second e) l
      go false l = refl

  pub number-only : IsNumber x e → truth_form x e ≡ NoTruth
  number-only n = no_truth (not-true _ ((unless (truth-decided x e)).no (λ t. omega arith)))

  pub truth-only : IsTruth x e → number_form x e ≡ NoNumber
  truth-only t = no_number (not-true _ ((unless (number-decided x e)).no (λ n. omega arith)))

  module _ (variables : ℕ) (form : FormRight x variables e) where
    pub number-right : IsNumber x e → NumberRight x variables e (number_form x e)
    number-right n = elim form [ inl h ↦ h | inr h ↦ absurd (rw (number-only n) at h) ]

    pub truth-right : IsTruth x e → TruthRight x variables e (truth_form x e)
    truth-right t = elim form [ inl h ↦ absurd (rw (truth-only t) at h) | inr h ↦ h ]
