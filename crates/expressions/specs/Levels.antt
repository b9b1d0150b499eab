-- What an entry is under an interpretation of the operations: worked out from its parts.
-- Assumes nothing.
use Rattle.std.specs.Prelude.{ℕ, zero, suc, ℤ}
use Rattle.expressions.specs.Entries.{Entries, number_form, truth_form}
use Rattle.expressions.specs.declared.Arith.{Arith}
use Rattle.expressions.specs.declared.Relation.{Relation}
use Rattle.expressions.specs.declared.Join.{Join}
use Rattle.expressions.specs.declared.NumberForm.{NumberForm}
use Rattle.expressions.specs.declared.NumberForm.TheVariants.{Constant, Variable, Binary, If, NoNumber}
use Rattle.expressions.specs.declared.TruthForm.{TruthForm}
use Rattle.expressions.specs.declared.TruthForm.TheVariants.{Compare, Not, Joined, Always, NoTruth}

-- An interpretation: what each operation makes of its parts, a number being an N and a truth a T. Meaning, reading,
-- range, depth and the variables mentioned are five of them.
pub record Interpretation (N T : Type 0) : Type 0 where
  pub constant : ℤ → N
  pub variable : ℕ → N
  pub binary : Arith → N → N → N
  pub choose : T → N → N → N
  pub no_number : N
  pub compare : Relation → N → N → T
  pub negate : T → T
  pub join : Join → T → T → T
  pub always : T
  pub no_truth : T

module _ {N T : Type 0} (R : Interpretation N T) where
  -- One level: the parts are given.
  abbrev pub number_step : (ℕ → N) → (ℕ → T) → NumberForm → N
  number_step num tru (Constant z) = R.constant z
  number_step num tru (Variable i) = R.variable i
  number_step num tru (Binary k p q) = R.binary k (num p) (num q)
  number_step num tru (If c p q) = R.choose (tru c) (num p) (num q)
  number_step num tru NoNumber = R.no_number

  abbrev pub truth_step : (ℕ → N) → (ℕ → T) → TruthForm → T
  truth_step num tru (Compare k p q) = R.compare k (num p) (num q)
  truth_step num tru (Not p) = R.negate (tru p)
  truth_step num tru (Joined k p q) = R.join k (tru p) (tru q)
  truth_step num tru Always = R.always
  truth_step num tru NoTruth = R.no_truth

  module _ (x : Entries) where
    -- Entry e, with n levels to go.
    unfoldable mutual
      pub number_at : ℕ → ℕ → N
      number_at zero e = R.no_number
      number_at (suc n) e = number_step (λ i. number_at n i) (λ i. truth_at n i) (number_form x e)

      pub truth_at : ℕ → ℕ → T
      truth_at zero e = R.no_truth
      truth_at (suc n) e = truth_step (λ i. number_at n i) (λ i. truth_at n i) (truth_form x e)

    -- Entry e. Parts are lower entries, so that e + 1 levels are enough.
    abbrev pub number : ℕ → N
    number e = number_at (suc e) e

    abbrev pub truth : ℕ → T
    truth e = truth_at (suc e) e
