-- A level of the reading, as the evaluators reach it: none are left, or one more than the parts have. A part is read with
-- the variable that it lacks, and taken without.
-- Assumes nothing.
use Prim.Native.Nat.{ℕ, zero, suc, ◌-◌}
use mathlib.Core.Path.{◌≡◌, refl, sym, ap, ◌∙◌}
use mathlib.Core.Bool.{true, false}
use mathlib.Core.List.{List}
use native.Mathlib.Numerals.{sub-one}
use lib.IntN.{ℤ}
use Rattle.expressions.specs.Entries.{Entries, entries_of, number_form, truth_form}
use Rattle.expressions.specs.Levels.{Interpretation, number_step, truth_step, number_at, truth_at}
use Rattle.expressions.specs.Mentions.{carry_n, carry_t, plain_n, plain_t}
use Rattle.expressions.specs.Reading.{look_in, reading, is_true}
use Rattle.expressions.specs.declared.NumberForm.{NumberForm}
use Rattle.expressions.specs.declared.TruthForm.{TruthForm}
use Rattle.expressions.specs.ThreeWay.{Number, Truth, NumberReading, TruthReading}
use Rattle.evaluate.specs.Bounded.{Small, Bounded}
use Rattle.std.specs.Prelude.{None, Some, unwrap_or}

plain-number : (w : ℕ) (a : Number) → plain_n (carry_n w a) ≡ a
plain-number w (Some z) = refl
plain-number w None = refl

plain-truth : (w : ℕ) (a : Truth) → plain_t (carry_t w a) ≡ a
plain-truth w (Some b) = refl
plain-truth w None = refl

-- A truth that is unknown is not true.
pub is-true : (a : Truth) → unwrap_or a false ≡ is_true a
is-true (Some true) = refl
is-true (Some false) = refl
is-true None = refl

module _ (x : List ℕ) (t : ℕ) (v : List ℤ) where
  abbrev R : Interpretation Number Truth
  R = reading (look_in t v)

  abbrev X : Entries
  X = entries_of x

  -- A part, from the reading that carries the variable w.
  pub number-part : (n e w : ℕ) {r : NumberReading} {a : Number} → a ≡ plain_n r → r ≡ carry_n w (number_at R X n e) → a ≡ number_at R X n e
  number-part n e w k l = k ∙ ap plain_n l ∙ plain-number w (number_at R X n e)

  pub truth-part : (n e w : ℕ) {r : TruthReading} {a : Truth} → a ≡ plain_t r → r ≡ carry_t w (truth_at R X n e) → a ≡ truth_at R X n e
  truth-part n e w k l = k ∙ ap plain_t l ∙ plain-truth w (truth_at R X n e)

  pub number-none : (n e : ℕ) → n ≡ 0 → None ≡ number_at R X n e
  unfolding number_at
  number-none n e h = rw h refl

  pub truth-none : (n e : ℕ) → n ≡ 0 → None ≡ truth_at R X n e
  unfolding truth_at
  truth-none n e h = rw h refl

  -- f is entry e's form.
  pub number-level : (n e : ℕ) {g : NumberForm} (f : NumberForm) → (n ≡ 0 → ⊥) → g ≡ number_form X e → g ≡ f
      → number_step R (λ i. number_at R X (n - 1) i) (λ i. truth_at R X (n - 1) i) f ≡ number_at R X n e
  unfolding number_at
  number-level zero e f h l k = absurd (h refl)
  number-level (suc n) e f h l k = rw (sub-one, ← k, l) refl

  pub truth-level : (n e : ℕ) {g : TruthForm} (f : TruthForm) → (n ≡ 0 → ⊥) → g ≡ truth_form X e → g ≡ f
      → truth_step R (λ i. number_at R X (n - 1) i) (λ i. truth_at R X (n - 1) i) f ≡ truth_at R X n e
  unfolding truth_at
  truth-level zero e f h l k = absurd (h refl)
  truth-level (suc n) e f h l k = rw (sub-one, ← k, l) refl

  pub small-read : (n e : ℕ) {r : Number} → Bounded X (look_in t v) → r ≡ number_at R X n e → Small r
  unfolding Bounded
  small-read n e h l z k = h n e z (sym l ∙ k)
