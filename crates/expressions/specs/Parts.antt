-- What holds of each part of an entry; and that parts are lower, as row 5 asks.
-- Assumes nothing.
use Rattle.std.specs.Prelude.{ℕ, ◌<◌}
use Rattle.expressions.specs.Entries.{Entries, number_form, truth_form}
use Rattle.expressions.specs.declared.NumberForm.{NumberForm}
use Rattle.expressions.specs.declared.NumberForm.TheVariants.{Constant, Variable, Binary, If, NoNumber}
use Rattle.expressions.specs.declared.TruthForm.{TruthForm}
use Rattle.expressions.specs.declared.TruthForm.TheVariants.{Compare, Not, Joined, Always, NoTruth}

module _ (A B : ℕ → Type 0) where
  -- A holds of each part that is a number, B of each that is a truth.
  abbrev pub EachN : NumberForm → Type 0
  EachN (Constant z) = Unit {0}
  EachN (Variable i) = Unit {0}
  EachN (Binary k p q) = A p × A q
  EachN (If c p q) = B c × A p × A q
  EachN NoNumber = Unit {0}

  abbrev pub EachT : TruthForm → Type 0
  EachT (Compare k p q) = A p × A q
  EachT (Not p) = B p
  EachT (Joined k p q) = B p × B q
  EachT Always = Unit {0}
  EachT NoTruth = Unit {0}

pub record Lower (x : Entries) : Type 0 where
  pub number : (e : ℕ) → EachN (λ p. p < e) (λ p. p < e) (number_form x e)
  pub truth : (e : ℕ) → EachT (λ p. p < e) (λ p. p < e) (truth_form x e)
