-- What an entry mentions, by its sort. What it is under an interpretation depends only on that: its value in a state, and
-- its reading in a label.
-- Assumes nothing.
use Prim.Native.Nat.{ℕ, zero, suc, ◌≤◌}
use mathlib.Core.Path.{◌≡◌, refl}
use mathlib.Core.Bool.{true}
use borrow.Author.Tests.{le-ltb}
use lib.Bits.{or_zero_l, or_zero_r}
use Rattle.expressions.specs.Entries.{Entries, number_form, truth_form}
use Rattle.expressions.specs.Levels.{Interpretation, number_step, truth_step, number_at, truth_at, number, truth}
use Rattle.expressions.specs.Meaning.{State, value_of, meaning, number_in, truth_in}
use Rattle.expressions.specs.Reading.{has_bit, reading, read_number, read_truth}
use Rattle.expressions.specs.Mentions.{union, mentioning, mentions}
use Rattle.expressions.specs.Right.{IsNumber, IsTruth}
use Rattle.expressions.specs.ThreeWay.{Number}
use Rattle.expressions.specs.declared.NumberForm.{NumberForm}
use Rattle.expressions.specs.declared.NumberForm.TheVariants.{Constant, Variable, Binary, If, NoNumber}
use Rattle.expressions.specs.declared.TruthForm.{TruthForm}
use Rattle.expressions.specs.declared.TruthForm.TheVariants.{Compare, Not, Joined, Always, NoTruth}
use Rattle.expressions.proofs.Bits.{own-bit, in_left, in_right}
use Rattle.expressions.proofs.Forms.{number-only, truth-only}
use Rattle.expressions.proofs.Levels.{equal}

-- The same interpretation with other variables.
abbrev over : {N T : Type 0} → Interpretation N T → (ℕ → N) → Interpretation N T
over R look = record {
  constant = R.constant;
  variable = look;
  binary = R.binary;
  choose = R.choose;
  no_number = R.no_number;
  compare = R.compare;
  negate = R.negate;
  join = R.join;
  always = R.always;
  no_truth = R.no_truth;
}

-- Two assignments agree on the variables of a set.
pub record Agree {N : Type 0} (f g : ℕ → N) (m : ℕ) : Type 0 where
  pub on : (v : ℕ) → has_bit m v ≡ true → f v ≡ g v

module _ {N : Type 0} {f g : ℕ → N} where
  on-left : (a b : ℕ) → Agree f g (union a b) → Agree f g a
  on-left a b h = record { on = λ v k. h.on v (in_left a b v k) }

  on-right : (a b : ℕ) → Agree f g (union a b) → Agree f g b
  on-right a b h = record { on = λ v k. h.on v (in_right a b v k) }

module _ {N T : Type 0} (R : Interpretation N T) (g : ℕ → N) where
  abbrev Same : ℕ → Type 0
  Same m = Agree R.variable g m

  -- One level: parts whose variables agree are equal.
  module _ (dn dt : ℕ → ℕ) {num num' : ℕ → N} {tru tru' : ℕ → T} (rn : (p : ℕ) → Same (dn p) → num p ≡ num' p) (rt : (p : ℕ) → Same (dt p) → tru p ≡ tru' p) where
    number-one : (f : NumberForm) → Same (number_step mentioning dn dt f) → number_step R num tru f ≡ number_step (over R g) num' tru' f
    number-one (Constant z) h = refl
    number-one (Variable i) h = h.on i (own-bit i)
    number-one (Binary k p q) h = (equal R).binary k (rn p (on-left _ _ h)) (rn q (on-right _ _ h))
    number-one (If c p q) h = let l = on-right (dt c) (union (dn p) (dn q)) h in (equal R).choose (rt c (on-left _ _ h)) (rn p (on-left _ _ l)) (rn q (on-right _ _ l))
    number-one NoNumber h = refl

    truth-one : (f : TruthForm) → Same (truth_step mentioning dn dt f) → truth_step R num tru f ≡ truth_step (over R g) num' tru' f
    truth-one (Compare k p q) h = (equal R).compare k (rn p (on-left _ _ h)) (rn q (on-right _ _ h))
    truth-one (Not p) h = (equal R).negate (rt p h)
    truth-one (Joined k p q) h = (equal R).join k (rt p (on-left _ _ h)) (rt q (on-right _ _ h))
    truth-one Always h = refl
    truth-one NoTruth h = refl

  module _ (x : Entries) where
    mutual
      unfolding number_at truth_at

      number_by : (n e : ℕ) → Same (number_at mentioning x n e) → number_at R x n e ≡ number_at (over R g) x n e
      number_by zero e h = refl
      number_by (suc n) e h = number-one (λ i. number_at mentioning x n i) (λ i. truth_at mentioning x n i) (λ p k. number_by n p k) (λ p k. truth-by n p k) (number_form x e) h

      truth-by : (n e : ℕ) → Same (truth_at mentioning x n e) → truth_at R x n e ≡ truth_at (over R g) x n e
      truth-by zero e h = refl
      truth-by (suc n) e h = truth-one (λ i. number_at mentioning x n i) (λ i. truth_at mentioning x n i) (λ p k. number_by n p k) (λ p k. truth-by n p k) (truth_form x e) h

    number-over : (e : ℕ) → Same (mentions x e) → number R x e ≡ number (over R g) x e
    unfolding mentions
    number-over e h = number_by (suc e) e (on-left (number mentioning x e) (truth mentioning x e) h)

    truth-over : (e : ℕ) → Same (mentions x e) → truth R x e ≡ truth (over R g) x e
    unfolding mentions
    truth-over e h = truth-by (suc e) e (on-right (number mentioning x e) (truth mentioning x e) h)

-- In two states that agree on what entry e mentions, it is the same.
module _ (x : Entries) (s s' : State) (e : ℕ) (h : Agree (value_of s) (value_of s') (mentions x e)) where
  pub number-depends : number_in x s e ≡ number_in x s' e
  number-depends = number-over (meaning s) (value_of s') x e h

  pub truth-depends : truth_in x s e ≡ truth_in x s' e
  truth-depends = truth-over (meaning s) (value_of s') x e h

-- And in two labels it reads the same.
module _ (x : Entries) (look look' : ℕ → Number) (e : ℕ) (h : Agree look look' (mentions x e)) where
  pub number-reads : read_number x look e ≡ read_number x look' e
  unfolding read_number
  number-reads = number-over (reading look) look' x e h

  pub truth-reads : read_truth x look e ≡ read_truth x look' e
  unfolding read_truth
  truth-reads = truth-over (reading look) look' x e h

-- An entry mentions what it does by its sort, and one past the last mentions nothing.
module _ (x : Entries) (e : ℕ) where
  pub number-mentions : IsNumber x e → mentions x e ≡ number mentioning x e
  unfolding mentions union truth_at
  number-mentions n = rw (number-only x e n) (or_zero_r (number mentioning x e))

  pub truth-mentions : IsTruth x e → mentions x e ≡ truth mentioning x e
  unfolding mentions union number_at
  truth-mentions t = rw (truth-only x e t) (or_zero_l (truth mentioning x e))

  pub past-mentions : x.count ≤ e → mentions x e ≡ 0
  unfolding mentions union number_at truth_at number_form truth_form
  past-mentions l = rw (le-ltb e x.count l) refl
