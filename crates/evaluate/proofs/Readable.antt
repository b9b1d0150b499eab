-- Expressions that rows 5 and 6 pass can be read in a label whose values lie in the ranges, by `deepest` levels; and
-- in a state, which is the label that tracks every variable.
-- Assumes nothing.
use Prim.Native.Nat.{ℕ, ◌<◌, ◌≤◌}
use mathlib.Core.Path.{◌≡◌, sym, ◌∙◌, subst}
use mathlib.Core.List.{List}
use native.Mathlib.Decide.{dec_lt}
use native.Mathlib.Omega.{arith}
use borrow.Author.Tests.{le-ltb}
use lib.ListN.{get_or}
use lib.IntN.{ℤ, pos}
use Rattle.folder.proofs.PickLaws.{pick-by, pick_all}
use Rattle.expressions.specs.Limits.{no_variable, all_tracked}
use Rattle.expressions.specs.Entries.{Entries, number_form, truth_form}
use Rattle.expressions.specs.Levels.{number_at, truth_at}
use Rattle.expressions.specs.Meaning.{State, value_of, number_in, truth_in}
use Rattle.expressions.specs.Mentions.{missing, carry_t, truth_reading}
use Rattle.expressions.specs.Reading.{has_bit, look_in, reading, read_number, read_truth, is_true}
use Rattle.expressions.specs.Ranges.{span, range_of, limits}
use Rattle.expressions.specs.Rules.{deepest, depth_of}
use Rattle.expressions.specs.Right.{IsNumber, IsTruth, Inside}
use Rattle.expressions.specs.Parts.{Lower}
use Rattle.expressions.specs.ThreeWay.{Number}
use Rattle.expressions.specs.declared.Range.{Range}
use Rattle.expressions.proofs.Bits.{each-tracked}
use Rattle.expressions.proofs.Interval.{In}
use Rattle.expressions.proofs.Levels.{lower, truth-deep}
use Rattle.expressions.proofs.Mentions.{past-mentions}
use Rattle.expressions.proofs.Missing.{none-missing, never-known}
use Rattle.expressions.proofs.Small.{InN, in-range-at, small}
use Rattle.expressions.proofs.Sound.{Says, number-sound, truth-sound, known_is, is_true_lem}
use Rattle.expressions.proofs.Whole.{whole-number, whole-truth}
use Rattle.mentions.specs.Masked.{Masked}
use Rattle.evaluate.specs.Bounded.{Bounded}
use Rattle.evaluate.specs.Formed.{Formed, Values, Ready, Grounded}
use Rattle.std.specs.Prelude.{Err, None, Some}

in-known : {r : Range} {a : Number} (z : ℤ) → InN r a → a ≡ Some z → In r z
in-known {r} z (InN.known_in h) e = subst (λ (w : ℤ). In r w) (cc) h
in-known z InN.open_in e = absurd (let k : ◌≡◌ {A = ℕ} 0 1 = cc in omega arith)

-- ---- rows 5 and 6
module _ (x : Entries) (variables : ℕ) (bound : ℕ → Range) (formed : Formed x variables bound) where
  parts-lower : Lower x
  parts-lower = lower x variables formed.right

  -- An entry past the last is of no form.
  past-range : (e : ℕ) → x.count ≤ e → range_of x bound e ≡ span (pos 0) (pos 0)
  unfolding range_of number_at number_form
  past-range e l = rw (le-ltb e x.count l)

  past-depth : (e : ℕ) → x.count ≤ e → depth_of x e ≡ 0
  unfolding depth_of number_at truth_at number_form truth_form
  past-depth e l = rw (le-ltb e x.count l)

  pub narrow : (e : ℕ) → Inside (range_of x bound e) limits
  narrow e = go (dec_lt e x.count)
    where
      go : Dec (e < x.count) → Inside (range_of x bound e) limits
      go (yes l) = formed.ranges e l
      go (no g) = rw (past-range e (omega arith)) (record { low = record { le = tt }; high = record { le = tt } })

  shallow : (e : ℕ) → depth_of x e ≤ deepest
  shallow e = go (dec_lt e x.count)
    where
      go : Dec (e < x.count) → depth_of x e ≤ deepest
      go (yes l) = (formed.right e l).depth
      go (no g) = omega (arith, past-depth e (omega arith))

  value_in : (t : ℕ) (v : List ℤ) → Values t v bound → (i : ℕ) → InN (bound i) (look_in t v i)
  unfolding look_in
  value_in t v h i = pick-by (InN (bound i)) (has_bit t i) (λ e. InN.known_in (record { low = h.low i e; high = h.high i e })) (λ e. InN.open_in)

-- ---- a label
module _ (x : Entries) (t : ℕ) (v : List ℤ) (ready : Ready x t v) where
  pub bounded : Bounded x (look_in t v)
  unfolding Bounded
  bounded n e z k =
      let f = ready.formed in
      small (in-known z (in-range-at x (parts-lower x _ _ f) ready.bound (look_in t v) (value_in x _ _ f t v ready.values) n e) k) (narrow x _ _ f e)

  pub truth-enough : (e : ℕ) → truth_at (reading (look_in t v)) x deepest e ≡ read_truth x (look_in t v) e
  unfolding read_truth
  truth-enough e = let f = ready.formed in truth-deep (reading (look_in t v)) x (parts-lower x _ _ f) deepest e (shallow x _ _ f e)

-- ---- a label, with the variables that readings lack
module _ (x : Entries) (vars : ℕ) where
  pub truth-lacking : (masks : List ℕ) (t : ℕ) (v : List ℤ) → Ready x t v → Masked x x.count masks → (e : ℕ) → e < x.count
      → carry_t (missing vars (get_or masks e 0) t) (truth_at (reading (look_in t v)) x deepest e) ≡ truth_reading x vars t v e
  truth-lacking masks t v ready masked e l = rw (masked.is e l, truth-enough x t v ready e)

  -- An entry past the last is of no form, so that it reads unknown and mentions nothing.
  past-read : (look : ℕ → Number) (e : ℕ) → x.count ≤ e → read_truth x look e ≡ None
  unfolding read_truth truth_at truth_form
  past-read look e l = rw (le-ltb e x.count l)

  pub past-lacking : (t : ℕ) (v : List ℤ) (e : ℕ) → x.count ≤ e → Err no_variable ≡ truth_reading x vars t v e
  past-lacking t v e l = rw (past-read (look_in t v) e l, past-mentions x e l, none-missing vars t)

-- ---- a state
module _ (x : Entries) (s : State) (grounded : Grounded x s) where
  pub ready : Ready x all_tracked s
  ready = record {
    variables = grounded.variables;
    bound = grounded.bound;
    formed = grounded.formed;
    values = record { low = λ i h. grounded.low i; high = λ i h. grounded.high i };
  }

  told : (i : ℕ) → i < grounded.variables → (z : ℤ) × (look_in all_tracked s i ≡ Some z)
  unfolding look_in
  told i l = (value_of s i, rw (each-tracked i (omega (arith, grounded.few))))

  says : (i : ℕ) → Says (look_in all_tracked s i) (value_of s i)
  unfolding look_in
  says i = pick_all (λ (a : Number). Says a (value_of s i)) (has_bit all_tracked i) Says.known Says.open-number

  module _ (e : ℕ) where
    pub number-known : (z : ℤ) → read_number x (look_in all_tracked s) e ≡ Some z → z ≡ number_in x s e
    number-known z h = sym (known_is z (number-sound x (look_in all_tracked s) s says e) h)

    pub number-open : IsNumber x e → read_number x (look_in all_tracked s) e ≡ None → ⊥
    number-open n h =
        let w = whole-number x grounded.variables grounded.formed.right (look_in all_tracked s) told e n in
        let k : ◌≡◌ {A = ℕ} 0 1 = cc w.1 in
        omega arith

    truth-open : IsTruth x e → read_truth x (look_in all_tracked s) e ≡ None → ⊥
    truth-open n h = let w = whole-truth x grounded.variables grounded.formed.right (look_in all_tracked s) told e n in never-known w.0 (sym h ∙ w.1)

    -- No truth reads unknown in a state, so that one that does not read true is false.
    pub truth-is : IsTruth x e → is_true (read_truth x (look_in all_tracked s) e) ≡ truth_in x s e
    truth-is n = is_true_lem (truth-sound x (look_in all_tracked s) s says e) (truth-open n)
