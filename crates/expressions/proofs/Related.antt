-- Two interpretations whose operations keep a relation of the numbers and one of the truths are related at every entry.
-- Assumes nothing.
use Prim.Native.Nat.{ℕ, zero, suc}
use lib.IntN.{ℤ}
use Rattle.expressions.specs.Entries.{Entries, number_form, truth_form}
use Rattle.expressions.specs.Levels.{Interpretation, number_step, truth_step, number_at, truth_at}
use Rattle.expressions.specs.declared.Arith.{Arith}
use Rattle.expressions.specs.declared.Relation.{Relation}
use Rattle.expressions.specs.declared.Join.{Join}
use Rattle.expressions.specs.declared.NumberForm.{NumberForm}
use Rattle.expressions.specs.declared.NumberForm.TheVariants.{Constant, Variable, Binary, If, NoNumber}
use Rattle.expressions.specs.declared.TruthForm.{TruthForm}
use Rattle.expressions.specs.declared.TruthForm.TheVariants.{Compare, Not, Joined, Always, NoTruth}
use Rattle.expressions.specs.Parts.{EachN, EachT}
use Rattle.expressions.proofs.Parts.{all-number, all-truth}

-- Any two are related: for what a proof leaves out of account.
pub data Any {T T' : Type 0} : T → T' → Type 0 where
  any : {t : T} {t' : T'} → Any t t'

module _ {N N' T T' : Type 0} (R : Interpretation N T) (R' : Interpretation N' T') (◌~◌ : N → N' → Type 0) (◌≈◌ : T → T' → Type 0) where
  infix 4 ◌~◌ ◌≈◌
  -- Each operation keeps the relations.
  pub record Related : Type 0 where
    pub constant : (z : ℤ) → R.constant z ~ R'.constant z
    pub variable : (i : ℕ) → R.variable i ~ R'.variable i
    pub binary : (k : Arith) {a b : N} {a' b' : N'} → a ~ a' → b ~ b' → R.binary k a b ~ R'.binary k a' b'
    pub choose : {t : T} {t' : T'} {a b : N} {a' b' : N'} → t ≈ t' → a ~ a' → b ~ b' → R.choose t a b ~ R'.choose t' a' b'
    pub no_number : R.no_number ~ R'.no_number
    pub compare : (k : Relation) {a b : N} {a' b' : N'} → a ~ a' → b ~ b' → R.compare k a b ≈ R'.compare k a' b'
    pub negate : {t : T} {t' : T'} → t ≈ t' → R.negate t ≈ R'.negate t'
    pub join : (k : Join) {t u : T} {t' u' : T'} → t ≈ t' → u ≈ u' → R.join k t u ≈ R'.join k t' u'
    pub always : R.always ≈ R'.always
    pub no_truth : R.no_truth ≈ R'.no_truth

  module _ (related : Related) where
    -- One level: the parts that A and B hold of are related.
    module _ {A B : ℕ → Type 0} {num : ℕ → N} {num' : ℕ → N'} {tru : ℕ → T} {tru' : ℕ → T'} (rn : (i : ℕ) → A i → num i ~ num' i) (rt : (i : ℕ) → B i → tru i ≈ tru' i) where
      pub number_step_lem : (f : NumberForm) → EachN A B f → number_step R num tru f ~ number_step R' num' tru' f
      number_step_lem (Constant z) h = related.constant z
      number_step_lem (Variable i) h = related.variable i
      number_step_lem (Binary k p q) h = related.binary k (rn p h.0) (rn q h.1)
      number_step_lem (If c p q) h = related.choose (rt c h.0) (rn p h.1) (rn q h.2)
      number_step_lem NoNumber h = related.no_number

      pub truth-step : (f : TruthForm) → EachT A B f → truth_step R num tru f ≈ truth_step R' num' tru' f
      truth-step (Compare k p q) h = related.compare k (rn p h.0) (rn q h.1)
      truth-step (Not p) h = related.negate (rt p h)
      truth-step (Joined k p q) h = related.join k (rt p h.0) (rt q h.1)
      truth-step Always h = related.always
      truth-step NoTruth h = related.no_truth

    mutual
      unfolding number_at truth_at

      pub number-related : (x : Entries) (n e : ℕ) → number_at R x n e ~ number_at R' x n e
      number-related x zero e = related.no_number
      number-related x (suc n) e = number_step_lem (λ i h. h) (λ i h. h) (number_form x e) (all-number (λ i. number-related x n i) (λ i. truth-related x n i) (number_form x e))

      pub truth-related : (x : Entries) (n e : ℕ) → truth_at R x n e ≈ truth_at R' x n e
      truth-related x zero e = related.no_truth
      truth-related x (suc n) e = truth-step (λ i h. h) (λ i h. h) (truth_form x e) (all-truth (λ i. number-related x n i) (λ i. truth-related x n i) (truth_form x e))
