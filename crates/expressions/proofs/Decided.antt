-- The tests of rows 5 and 6 decide their rules.
-- Assumes nothing.
use Prim.Native.Nat.{ℕ}
use mathlib.Core.Bool.{◌||◌}
use mathlib.Core.Logic.{◌⊎◌}
use Rattle.folder.proofs.Decides.{Decides, at_most, at_most_z, below, same, ◌∧also◌, ◌∨else◌, never, reworded}
use Rattle.expressions.specs.Entries.{Entries, number_form, truth_form, is_number, is_truth}
use Rattle.expressions.specs.Ranges.{range_of, inside, limits}
use Rattle.expressions.specs.Rules.{deepest, depth_of, second-unused, third-unused, number_part, truth_part, number_fits, truth_fits, entry_fits, range_fits}
use Rattle.expressions.specs.Right.{IsNumber, IsTruth, NumberPart, TruthPart, SecondUnused, ThirdUnused, NumberRight, TruthRight, EntryRight, Inside, RangeRight}
use Rattle.expressions.specs.declared.NumberForm.{NumberForm}
use Rattle.expressions.specs.declared.NumberForm.TheVariants.{Constant, Variable, Binary, If, NoNumber}
use Rattle.expressions.specs.declared.TruthForm.{TruthForm}
use Rattle.expressions.specs.declared.TruthForm.TheVariants.{Compare, Not, Joined, Always, NoTruth}
use Rattle.expressions.specs.declared.Range.{Range}

pub inside-decided : (a b : Range) → Decides (Inside a b) (inside a b)
unfolding inside
inside-decided a b = reworded (λ h. record { low = h.0; high = h.1 }) (λ r. (r.low, r.high)) (at_most_z b.low a.low ∧also at_most_z a.high b.high)

module _ (x : Entries) where
  pub number-decided : (e : ℕ) → Decides (IsNumber x e) (is_number x e)
  unfolding is_number
  number-decided e = reworded (λ h. record { there = h.0; sort = h.1 }) (λ r. (r.there, r.sort)) (below e x.count ∧also at_most (x.operation e) 7)

  pub truth-decided : (e : ℕ) → Decides (IsTruth x e) (is_truth x e)
  unfolding is_truth
  truth-decided e =
      reworded (λ h. record { there = h.0; sort = h.1.0; known = h.1.1 }) (λ r. (r.there, (r.sort, r.known)))
      (below e x.count ∧also at_most 8 (x.operation e) ∧also at_most (x.operation e) 14)

  number-part : (e p : ℕ) → Decides (NumberPart x e p) (number_part x e p)
  number-part e p = below p e ∧also number-decided p

  truth-part : (e p : ℕ) → Decides (TruthPart x e p) (truth_part x e p)
  truth-part e p = below p e ∧also truth-decided p

  unused-third : (e : ℕ) → Decides (ThirdUnused x e) (third-unused x e)
  unused-third e = same (x.third e) 0

  unused-second : (e : ℕ) → Decides (SecondUnused x e) (second-unused x e)
  unused-second e = same (x.second e) 0 ∧also unused-third e

  module _ (variables e : ℕ) where
    number-form : (f : NumberForm) → Decides (NumberRight x variables e f) (number_fits x variables e f)
    unfolding number_fits
    number-form (Constant z) = unused-second e
    number-form (Variable i) = below i variables ∧also unused-second e
    number-form (Binary k p q) = (number-part e p ∧also number-part e q) ∧also unused-third e
    number-form (If c p q) = truth-part e c ∧also number-part e p ∧also number-part e q
    number-form NoNumber = never

    truth-form : (f : TruthForm) → Decides (TruthRight x variables e f) (truth_fits x variables e f)
    unfolding truth_fits
    truth-form (Compare k p q) = (number-part e p ∧also number-part e q) ∧also unused-third e
    truth-form (Not p) = truth-part e p ∧also unused-second e
    truth-form (Joined k p q) = (truth-part e p ∧also truth-part e q) ∧also unused-third e
    truth-form Always = same (x.first e) 0 ∧also unused-second e
    truth-form NoTruth = never

    -- The form that the entry has.
    abbrev pub FormRight : Type 0
    FormRight = NumberRight x variables e (number_form x e) ⊎ TruthRight x variables e (truth_form x e)

    pub form-decided : Decides FormRight (number_fits x variables e (number_form x e) || truth_fits x variables e (truth_form x e))
    form-decided = number-form (number_form x e) ∨else truth-form (truth_form x e)

    -- Row 5.
    pub entry-decided : Decides (EntryRight x variables e) (entry_fits x variables e)
    unfolding entry_fits
    entry-decided =
        reworded (λ h. record { form = h.0; depth = h.1 }) (λ r. (r.form, r.depth)) (form-decided ∧also at_most (depth_of x e) deepest)

  -- Row 6.
  pub range-decided : (bound : ℕ → Range) (e : ℕ) → Decides (RangeRight x bound e) (range_fits x bound e)
  unfolding range_fits
  range-decided bound e = inside-decided (range_of x bound e) limits
