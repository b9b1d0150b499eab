-- Where every variable is known, every entry that is right reads known.
-- Assumes nothing.
use Prim.Native.Nat.{ℕ, zero, suc, ◌<◌}
use mathlib.Core.Path.{◌≡◌, refl}
use mathlib.Core.Bool.{Bool, true, false, not}
use native.Mathlib.Nat.{not-suc-le-zero}
use native.Mathlib.Omega.{arith}
use lib.IntN.{ℤ}
use Rattle.folder.specs.Pick.{pick}
use Rattle.expressions.specs.Entries.{Entries, number_form, truth_form}
use Rattle.expressions.specs.Levels.{number_step, truth_step, number_at, truth_at}
use Rattle.expressions.specs.Operations.{arith_z, relates}
use Rattle.expressions.specs.Meaning.{joins}
use Rattle.expressions.specs.Reading.{known_truth, chosen, not_t, join_t, reading, read_number, read_truth}
use Rattle.expressions.specs.Right.{IsNumber, IsTruth, NumberPart, TruthPart, NumberRight, TruthRight, EntryRight}
use Rattle.expressions.specs.declared.Join.{Join}
use Rattle.expressions.specs.declared.Join.TheVariants.{And, Or}
use Rattle.expressions.specs.ThreeWay.{Number, Truth}
use Rattle.expressions.specs.declared.NumberForm.{NumberForm}
use Rattle.expressions.specs.declared.NumberForm.TheVariants.{Constant, Variable, Binary, If, NoNumber}
use Rattle.expressions.specs.declared.TruthForm.{TruthForm}
use Rattle.expressions.specs.declared.TruthForm.TheVariants.{Compare, Not, Joined, Always, NoTruth}
use Rattle.expressions.proofs.Forms.{number-right, truth-right}
use Rattle.std.specs.Prelude.{Some}

abbrev KnownN : Number → Type 0
KnownN a = (z : ℤ) × (a ≡ Some z)

abbrev KnownT : Truth → Type 0
KnownT t = (b : Bool) × (t ≡ known_truth b)

-- Operations on known truths.
chosen-known : (t : Bool) (a b : ℤ) → chosen (known_truth t) a b ≡ Some (pick t a b)
chosen-known true a b = refl
chosen-known false a b = refl

not_known : (t : Bool) → not_t (known_truth t) ≡ known_truth (not t)
not_known true = refl
not_known false = refl

join-known : (k : Join) (t u : Bool) → join_t k (known_truth t) (known_truth u) ≡ known_truth (joins k t u)
join-known And true u = refl
join-known And false u = refl
join-known Or true u = refl
join-known Or false u = refl

module _ (x : Entries) (variables : ℕ) (right : (e : ℕ) → e < x.count → EntryRight x variables e) (look : ℕ → Number) (told : (i : ℕ) → i < variables → (z : ℤ) × (look i ≡ Some z)) where
  -- One level.
  module _ (e : ℕ) (num : ℕ → Number) (tru : ℕ → Truth) (kn : (p : ℕ) → NumberPart x e p → KnownN (num p)) (kt : (p : ℕ) → TruthPart x e p → KnownT (tru p)) where
    number-known : (f : NumberForm) → NumberRight x variables e f → KnownN (number_step (reading look) num tru f)
    number-known (Constant z) h = (z, refl)
    number-known (Variable i) h = told i h.0
    number-known (Binary k p q) h =
        let a = kn p h.0.0 in
        let b = kn q h.0.1 in
        (arith_z k a.0 b.0, rw (a.1, b.1))
    number-known (If c p q) h =
        let t = kt c h.0 in
        let a = kn p h.1.0 in
        let b = kn q h.1.1 in
        (pick t.0 a.0 b.0, rw (a.1, b.1, t.1) (chosen-known t.0 a.0 b.0))
    number-known NoNumber h = absurd h

    truth-known : (f : TruthForm) → TruthRight x variables e f → KnownT (truth_step (reading look) num tru f)
    truth-known (Compare k p q) h =
        let a = kn p h.0.0 in
        let b = kn q h.0.1 in
        (relates k a.0 b.0, rw (a.1, b.1))
    truth-known (Not p) h = let t = kt p h.0 in (not t.0, rw t.1 (not_known t.0))
    truth-known (Joined k p q) h =
        let t = kt p h.0.0 in
        let u = kt q h.0.1 in
        (joins k t.0 u.0, rw (t.1, u.1) (join-known k t.0 u.0))
    truth-known Always h = (true, refl)
    truth-known NoTruth h = absurd h

  mutual
    unfolding number_at truth_at

    number-at : (n e : ℕ) → e < n → IsNumber x e → KnownN (number_at (reading look) x n e)
    number-at zero e l s = absurd (not-suc-le-zero l)
    number-at (suc n) e l s =
        number-known e _ _ (λ p h. number-at n p (omega arith) h.1) (λ p h. truth-at n p (omega arith) h.1) (number_form x e) (number-right x e variables (right e s.there).form s)

    truth-at : (n e : ℕ) → e < n → IsTruth x e → KnownT (truth_at (reading look) x n e)
    truth-at zero e l s = absurd (not-suc-le-zero l)
    truth-at (suc n) e l s =
        truth-known e _ _ (λ p h. number-at n p (omega arith) h.1) (λ p h. truth-at n p (omega arith) h.1) (truth_form x e) (truth-right x e variables (right e s.there).form s)

  pub whole-number : (e : ℕ) → IsNumber x e → (z : ℤ) × (read_number x look e ≡ Some z)
  unfolding read_number
  whole-number e s = number-at (suc e) e (omega arith) s

  pub whole-truth : (e : ℕ) → IsTruth x e → (b : Bool) × (read_truth x look e ≡ known_truth b)
  unfolding read_truth
  whole-truth e s = truth-at (suc e) e (omega arith) s
