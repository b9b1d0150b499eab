-- How many levels are enough: one more than the entry's number, and as many as its depth.
-- Assumes nothing.
use Prim.Native.Nat.{ℕ, zero, suc, ◌<◌, ◌≤◌}
use mathlib.Core.Path.{◌≡◌, refl}
use mathlib.Core.Bool.{Bool, true, false}
use native.Mathlib.Omega.{arith}
use native.Mathlib.Nat.{not-suc-le-zero}
use Rattle.expressions.specs.Entries.{Entries, number_form, truth_form, is_number, is_truth}
use Rattle.expressions.specs.Levels.{Interpretation, number_step, truth_step, number_at, truth_at, number, truth}
use Rattle.expressions.specs.Rules.{depth, depth_of}
use Rattle.expressions.specs.Right.{IsNumber, IsTruth, NumberPart, TruthPart, NumberRight, TruthRight, EntryRight}
use Rattle.expressions.specs.declared.NumberForm.{NumberForm}
use Rattle.expressions.specs.declared.NumberForm.TheVariants.{Constant, Variable, Binary, If, NoNumber}
use Rattle.expressions.specs.declared.TruthForm.{TruthForm}
use Rattle.expressions.specs.declared.TruthForm.TheVariants.{Compare, Not, Joined, Always, NoTruth}
use Rattle.expressions.proofs.Decided.{FormRight, number-decided, truth-decided}
use Rattle.expressions.proofs.Forms.{no_number, no_truth, number-only, truth-only, number-right, truth-right}
use Rattle.expressions.proofs.Related.{Related, number_step_lem, truth-step}
use Rattle.expressions.specs.Parts.{EachN, EachT, Lower}

-- What every part that fits has, each part of an entry of a right form has.
module _ (x : Entries) (variables e : ℕ) {A B : ℕ → Type 0} (a : (p : ℕ) → NumberPart x e p → A p) (b : (p : ℕ) → TruthPart x e p → B p) where
  number-each : (f : NumberForm) → NumberRight x variables e f → EachN A B f
  number-each (Constant z) h = tt
  number-each (Variable i) h = tt
  number-each (Binary k p q) h = (a p h.0.0, a q h.0.1)
  number-each (If c p q) h = (b c h.0, a p h.1.0, a q h.1.1)
  number-each NoNumber h = tt

  truth-each : (f : TruthForm) → TruthRight x variables e f → EachT A B f
  truth-each (Compare k p q) h = (a p h.0.0, a q h.0.1)
  truth-each (Not p) h = b p h.0
  truth-each (Joined k p q) h = (b p h.0.0, b q h.0.1)
  truth-each Always h = tt
  truth-each NoTruth h = tt

  module _ (form : e < x.count → FormRight x variables e) where
    pub each_number : EachN A B (number_form x e)
    each_number = go (is_number x e) refl
      where
        go : (t : Bool) → is_number x e ≡ t → EachN A B (number_form x e)
        go true q = let n = (number-decided x e).yes q in number-each (number_form x e) (number-right x e variables (form n.there) n)
        go false q = rw (no_number x e q) tt

    pub each-truth : EachT A B (truth_form x e)
    each-truth = go (is_truth x e) refl
      where
        go : (t : Bool) → is_truth x e ≡ t → EachT A B (truth_form x e)
        go true q = let n = (truth-decided x e).yes q in truth-each (truth_form x e) (truth-right x e variables (form n.there) n)
        go false q = rw (no_truth x e q) tt

-- The parts of each entry below `top` are lower.
pub record LowerTo (x : Entries) (top : ℕ) : Type 0 where
  pub number : (e : ℕ) → e < top → EachN (λ p. p < e) (λ p. p < e) (number_form x e)
  pub truth : (e : ℕ) → e < top → EachT (λ p. p < e) (λ p. p < e) (truth_form x e)

module _ (x : Entries) (variables : ℕ) where
  pub lower : ((e : ℕ) → e < x.count → EntryRight x variables e) → Lower x
  lower right = record {
    number = λ e. each_number x variables e (λ p h. h.0) (λ p h. h.0) (λ l. (right e l).form);
    truth = λ e. each-truth x variables e (λ p h. h.0) (λ p h. h.0) (λ l. (right e l).form);
  }

  pub lower-to : (top : ℕ) → ((e : ℕ) → e < top → EntryRight x variables e) → LowerTo x top
  lower-to top right = record {
    number = λ e l. each_number x variables e (λ p h. h.0) (λ p h. h.0) (λ m. (right e l).form);
    truth = λ e l. each-truth x variables e (λ p h. h.0) (λ p h. h.0) (λ m. (right e l).form);
  }

-- An entry of depth n + 1 has parts of depth n at most.
module _ (e n : ℕ) (num tru : ℕ → ℕ) where
  number-parts : (f : NumberForm) → number_step depth num tru f ≤ suc n → EachN (λ p. p < e) (λ p. p < e) f → EachN (λ p. (p < e) × (num p ≤ n)) (λ p. (p < e) × (tru p ≤ n)) f
  number-parts (Constant z) d h = tt
  number-parts (Variable i) d h = tt
  number-parts (Binary k p q) d h = omega arith
  number-parts (If c p q) d h = omega arith
  number-parts NoNumber d h = tt

  truth-parts : (f : TruthForm) → truth_step depth num tru f ≤ suc n → EachT (λ p. p < e) (λ p. p < e) f → EachT (λ p. (p < e) × (num p ≤ n)) (λ p. (p < e) × (tru p ≤ n)) f
  truth-parts (Compare k p q) d h = omega arith
  truth-parts (Not p) d h = omega arith
  truth-parts (Joined k p q) d h = omega arith
  truth-parts Always d h = tt
  truth-parts NoTruth d h = tt

module _ {N T : Type 0} (R : Interpretation N T) where
  -- Equal parts make equal entries.
  pub equal : Related R R ◌≡◌ ◌≡◌
  equal = record {
    constant = λ z. refl;
    variable = λ i. refl;
    binary = λ k p q. cc;
    choose = λ t p q. cc;
    no_number = refl;
    compare = λ k p q. cc;
    negate = λ t. cc;
    join = λ k t u. cc;
    always = refl;
    no_truth = refl;
  }

  -- An entry of depth 0 is of no form.
  module _ (dn dt : ℕ → ℕ) (num : ℕ → N) (tru : ℕ → T) where
    number-flat : (f : NumberForm) → number_step depth dn dt f ≤ 0 → R.no_number ≡ number_step R num tru f
    number-flat (Constant z) d = absurd (omega arith)
    number-flat (Variable i) d = absurd (omega arith)
    number-flat (Binary k p q) d = absurd (omega arith)
    number-flat (If c p q) d = absurd (omega arith)
    number-flat NoNumber d = refl

    truth-flat : (f : TruthForm) → truth_step depth dn dt f ≤ 0 → R.no_truth ≡ truth_step R num tru f
    truth-flat (Compare k p q) d = absurd (omega arith)
    truth-flat (Not p) d = absurd (omega arith)
    truth-flat (Joined k p q) d = absurd (omega arith)
    truth-flat Always d = absurd (omega arith)
    truth-flat NoTruth d = refl

  module _ (x : Entries) (top : ℕ) (low : LowerTo x top) where
    -- Two numbers of levels past the entry's number.
    mutual
      unfolding number_at truth_at

      number_past : (n m e : ℕ) → e < top → e < n → e < m → number_at R x n e ≡ number_at R x m e
      number_past zero m e k h l = absurd (not-suc-le-zero h)
      number_past (suc n) zero e k h l = absurd (not-suc-le-zero l)
      number_past (suc n) (suc m) e k h l =
          number_step_lem R R ◌≡◌ ◌≡◌ equal (λ p q. number_past n m p (omega arith) (omega arith) (omega arith)) (λ p q. truth-past n m p (omega arith) (omega arith) (omega arith)) (number_form x e) (low.number e k)

      truth-past : (n m e : ℕ) → e < top → e < n → e < m → truth_at R x n e ≡ truth_at R x m e
      truth-past zero m e k h l = absurd (not-suc-le-zero h)
      truth-past (suc n) zero e k h l = absurd (not-suc-le-zero l)
      truth-past (suc n) (suc m) e k h l =
          truth-step R R ◌≡◌ ◌≡◌ equal (λ p q. number_past n m p (omega arith) (omega arith) (omega arith)) (λ p q. truth-past n m p (omega arith) (omega arith) (omega arith)) (truth_form x e) (low.truth e k)

    -- Levels past e + 1 make no difference.
    pub number-settled-to : (n e : ℕ) → e < top → e < n → number_at R x n e ≡ number R x e
    number-settled-to n e k h = number_past n (suc e) e k h (omega arith)

    pub truth-settled-to : (n e : ℕ) → e < top → e < n → truth_at R x n e ≡ truth R x e
    truth-settled-to n e k h = truth-past n (suc e) e k h (omega arith)

  module _ (x : Entries) (low : Lower x) where
    lower-below : (top : ℕ) → LowerTo x top
    lower-below top = record { number = λ e k. low.number e; truth = λ e k. low.truth e }

    pub number-settled : (n e : ℕ) → e < n → number_at R x n e ≡ number R x e
    number-settled n e h = number-settled-to x n (lower-below n) n e h h

    pub truth-settled : (n e : ℕ) → e < n → truth_at R x n e ≡ truth R x e
    truth-settled n e h = truth-settled-to x n (lower-below n) n e h h

    -- As many levels as the depth.
    mutual
      unfolding number_at truth_at

      number-as-deep : (n m e : ℕ) → e < m → number_at depth x m e ≤ n → number_at R x n e ≡ number_at R x m e
      number-as-deep zero zero e l d = absurd (not-suc-le-zero l)
      number-as-deep zero (suc m) e l d = number-flat _ _ _ _ (number_form x e) d
      number-as-deep (suc n) zero e l d = absurd (not-suc-le-zero l)
      number-as-deep (suc n) (suc m) e l d =
          number_step_lem R R ◌≡◌ ◌≡◌ equal (λ p k. number-as-deep n m p (omega arith) k.1) (λ p k. truth-as-deep n m p (omega arith) k.1) (number_form x e)
          (number-parts e n _ _ (number_form x e) d (low.number e))

      truth-as-deep : (n m e : ℕ) → e < m → truth_at depth x m e ≤ n → truth_at R x n e ≡ truth_at R x m e
      truth-as-deep zero zero e l d = absurd (not-suc-le-zero l)
      truth-as-deep zero (suc m) e l d = truth-flat _ _ _ _ (truth_form x e) d
      truth-as-deep (suc n) zero e l d = absurd (not-suc-le-zero l)
      truth-as-deep (suc n) (suc m) e l d =
          truth-step R R ◌≡◌ ◌≡◌ equal (λ p k. number-as-deep n m p (omega arith) k.1) (λ p k. truth-as-deep n m p (omega arith) k.1) (truth_form x e)
          (truth-parts e n _ _ (truth_form x e) d (low.truth e))

    pub number-deep : (n e : ℕ) → depth_of x e ≤ n → number_at R x n e ≡ number R x e
    unfolding depth_of
    number-deep n e d = number-as-deep n (suc e) e (omega arith) (omega arith)

    pub truth-deep : (n e : ℕ) → depth_of x e ≤ n → truth_at R x n e ≡ truth R x e
    unfolding depth_of
    truth-deep n e d = truth-as-deep n (suc e) e (omega arith) (omega arith)

-- The depth of an entry is that of its sort.
module _ (x : Entries) (e : ℕ) where
  pub number-depth : IsNumber x e → depth_of x e ≡ number depth x e
  unfolding depth_of number_at truth_at
  number-depth n = rw (number-only x e n) (omega arith)

  pub truth-depth : IsTruth x e → depth_of x e ≡ truth depth x e
  unfolding depth_of number_at truth_at
  truth-depth t = rw (truth-only x e t) (omega arith)
