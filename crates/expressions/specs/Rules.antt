-- Document 01's table, rows 5 and 6: what is asked of each expression.
-- Assumes nothing.
use Rattle.std.specs.Prelude.{ℕ, suc, max, Bool, false, ◌&&◌, ◌||◌, ltb, leb, eqb}
use Rattle.expressions.specs.Entries.{Entries, number_form, truth_form, is_number, is_truth}
use Rattle.expressions.specs.Levels.{Interpretation, number, truth}
use Rattle.expressions.specs.Ranges.{range_of, inside, limits}
use Rattle.expressions.specs.declared.NumberForm.{NumberForm}
use Rattle.expressions.specs.declared.NumberForm.TheVariants.{Constant, Variable, Binary, If, NoNumber}
use Rattle.expressions.specs.declared.TruthForm.{TruthForm}
use Rattle.expressions.specs.declared.TruthForm.TheVariants.{Compare, Not, Joined, Always, NoTruth}
use Rattle.expressions.specs.declared.Range.{Range}

abbrev pub deepest : ℕ
deepest = 12

-- A leaf has depth 1, any other entry 1 more than its deepest part.
abbrev pub depth : Interpretation ℕ ℕ
depth = record {
  constant = λ z. 1;
  variable = λ i. 1;
  binary = λ k a b. suc (max a b);
  choose = λ t a b. suc (max t (max a b));
  no_number = 0;
  compare = λ k a b. suc (max a b);
  negate = λ t. suc t;
  join = λ k t u. suc (max t u);
  always = 1;
  no_truth = 0;
}

module _ (x : Entries) where
  unfoldable pub depth_of : ℕ → ℕ
  depth_of e = max (number depth x e) (truth depth x e)

  -- The fields that entry e does not use are 0: all from the second on, or the third.
  abbrev pub third-unused : ℕ → Bool
  third-unused e = eqb (x.third e) 0

  abbrev pub second-unused : ℕ → Bool
  second-unused e = eqb (x.second e) 0 && third-unused e

  -- p is lower than e, and of the sort asked.
  abbrev pub number_part : ℕ → ℕ → Bool
  number_part e p = ltb p e && is_number x p

  abbrev pub truth_part : ℕ → ℕ → Bool
  truth_part e p = ltb p e && is_truth x p

  -- Entry e, by its form, over this many variables.
  module _ (variables : ℕ) (e : ℕ) where
    unfoldable pub number_fits : NumberForm → Bool
    number_fits (Constant z) = second-unused e
    number_fits (Variable i) = ltb i variables && second-unused e
    number_fits (Binary k p q) = (number_part e p && number_part e q) && third-unused e
    number_fits (If c p q) = truth_part e c && (number_part e p && number_part e q)
    number_fits NoNumber = false

    unfoldable pub truth_fits : TruthForm → Bool
    truth_fits (Compare k p q) = (number_part e p && number_part e q) && third-unused e
    truth_fits (Not p) = truth_part e p && second-unused e
    truth_fits (Joined k p q) = (truth_part e p && truth_part e q) && third-unused e
    truth_fits Always = eqb (x.first e) 0 && second-unused e
    truth_fits NoTruth = false

    -- Row 5. An operation that is unknown is of neither form.
    unfoldable pub entry_fits : Bool
    entry_fits = (number_fits (number_form x e) || truth_fits (truth_form x e)) && leb (depth_of e) deepest

  -- Row 6.
  unfoldable pub range_fits : (ℕ → Range) → ℕ → Bool
  range_fits bound e = inside (range_of x bound e) limits
