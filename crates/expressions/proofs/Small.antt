-- A known number lies in its range at every level; a number within the limits is small.
-- Assumes nothing.
use Prim.Native.Nat.{ℕ, zero, suc, ◌<◌, ◌≤◌}
use mathlib.Core.Bool.{true, false}
use native.Mathlib.Nat.{not-suc-le-zero}
use native.Mathlib.Omega.{arith}
use lib.IntN.{ℤ}
use lib.Signed.{mag}
use Rattle.whole.specs.Limits.{farthest}
use Rattle.expressions.specs.Entries.{Entries, number_form}
use Rattle.expressions.specs.Levels.{number_at}
use Rattle.expressions.specs.Reading.{arith_n, choose_n, reading}
use Rattle.expressions.specs.Ranges.{arith_r, hull, ranging, range_of, limits}
use Rattle.expressions.specs.Right.{Inside}
use Rattle.expressions.specs.declared.Arith.{Arith}
use Rattle.expressions.specs.ThreeWay.{Number, Truth}
use Rattle.expressions.specs.declared.Range.{Range}
use Rattle.whole.proofs.Order.{to-⊑, within}
use Rattle.expressions.proofs.Related.{Any, any, Related, number_step_lem}
use Rattle.expressions.proofs.Interval.{In, in-inside, in-arith, in-hull, in_one}
use Rattle.expressions.specs.Parts.{Lower}
use Rattle.std.specs.Prelude.{None, Some}

pub data InN : Range → Number → Type 0 where
  known_in : {r : Range} {z : ℤ} → In r z → InN r (Some z)
  open_in : {r : Range} → InN r None

known-arith : (k : Arith) {r q : Range} {a b : Number} → InN r a → InN q b → InN (arith_r k r q) (arith_n k a b)
known-arith k (known_in h) (known_in l) = known_in (in-arith k h l)
known-arith k (known_in h) open_in = open_in
known-arith k open_in l = open_in

known-hull : (t : Truth) {r q : Range} {a b : Number} → InN r a → InN q b → InN (hull r q) (choose_n t a b)
known-hull (Some true) (known_in h) (known_in l) = known_in (in-hull true h l)
known-hull (Some false) (known_in h) (known_in l) = known_in (in-hull false h l)
known-hull None (known_in h) (known_in l) = open_in
known-hull t (known_in h) open_in = open_in
known-hull t open_in l = open_in

module _ (x : Entries) (low : Lower x) (bound : ℕ → Range) (look : ℕ → Number) (bounded : (i : ℕ) → InN (bound i) (look i)) where
  ranges : Related (ranging bound) (reading look) InN Any
  ranges = record {
    constant = λ z. known_in (in_one z);
    variable = bounded;
    binary = known-arith;
    choose = λ {t' = t} h. known-hull t;
    no_number = open_in;
    compare = λ k h l. any;
    negate = λ h. any;
    join = λ k h l. any;
    always = any;
    no_truth = any;
  }

  in-range-by : (n m e : ℕ) → e < m → InN (number_at (ranging bound) x m e) (number_at (reading look) x n e)
  unfolding number_at
  in-range-by zero m e l = open_in
  in-range-by (suc n) zero e l = absurd (not-suc-le-zero l)
  in-range-by (suc n) (suc m) e l = number_step_lem (ranging bound) (reading look) InN Any ranges {A = λ p. p < e} (λ p h. in-range-by n m p (omega arith)) (λ p h. any) (number_form x e) (low.number e)

  pub in-range-at : (n e : ℕ) → InN (range_of x bound e) (number_at (reading look) x n e)
  unfolding range_of
  in-range-at n e = in-range-by n (suc e) e (omega arith)

pub small : {r : Range} {z : ℤ} → In r z → Inside r limits → mag z ≤ farthest
small {z = z} h i = let l = in-inside h i in within _ z (to-⊑ l.low) (to-⊑ l.high)
