-- Document 01, "Models": the expressions, which are entries that refer to entries by their numbers.
-- Assumes nothing.
use Rattle.std.specs.Prelude.{ℕ, List, Bool, ◌&&◌, ltb, leb, eqb}
use Rattle.folder.specs.Pick.{pick}
use Rattle.folder.specs.Fields.{signed16}
use Rattle.folder.specs.Contents.{count_of, field}
use Rattle.expressions.specs.declared.Arith.TheVariants.{Add, Subtract, Multiply, Smaller, Larger}
use Rattle.expressions.specs.declared.Relation.TheVariants.{Equal, Less, AtMost}
use Rattle.expressions.specs.declared.Join.TheVariants.{And, Or}
use Rattle.expressions.specs.declared.NumberForm.{NumberForm}
use Rattle.expressions.specs.declared.NumberForm.TheVariants.{Constant, Variable, Binary, If, NoNumber}
use Rattle.expressions.specs.declared.TruthForm.{TruthForm}
use Rattle.expressions.specs.declared.TruthForm.TheVariants.{Compare, Not, Joined, Always, NoTruth}

-- An entry has an operation and three fields, by its number.
pub record Entries : Type 0 where
  pub count : ℕ
  pub operation : ℕ → ℕ
  pub first : ℕ → ℕ
  pub second : ℕ → ℕ
  pub third : ℕ → ℕ

-- The entries of an expression body: records of 8 bytes.
abbrev pub entries_of : List ℕ → Entries
entries_of b = record {
  count = count_of 8 b;
  operation = λ e. field 8 b e 0;
  first = λ e. field 8 b e 1;
  second = λ e. field 8 b e 2;
  third = λ e. field 8 b e 3;
}

-- The operations, by number: those that give a number.
unfoldable pub number_form_of : ℕ → ℕ → ℕ → ℕ → NumberForm
number_form_of operation a b c =
    pick (eqb operation 0) (Constant (signed16 a))
    (pick (eqb operation 1) (Variable a)
    (pick (eqb operation 2) (Binary Add a b)
    (pick (eqb operation 3) (Binary Subtract a b)
    (pick (eqb operation 4) (Binary Multiply a b)
    (pick (eqb operation 5) (Binary Smaller a b)
    (pick (eqb operation 6) (Binary Larger a b)
    (pick (eqb operation 7) (If a b c)
    NoNumber)))))))

-- And those that give a truth.
unfoldable pub truth_form_of : ℕ → ℕ → ℕ → TruthForm
truth_form_of operation a b =
    pick (eqb operation 8) (Compare Equal a b)
    (pick (eqb operation 9) (Compare Less a b)
    (pick (eqb operation 10) (Compare AtMost a b)
    (pick (eqb operation 11) (Not a)
    (pick (eqb operation 12) (Joined And a b)
    (pick (eqb operation 13) (Joined Or a b)
    (pick (eqb operation 14) Always
    NoTruth))))))

module _ (x : Entries) where
  -- Entry e as a number and as a truth. A missing entry is neither sort.
  unfoldable pub number_form : ℕ → NumberForm
  number_form e = pick (ltb e x.count) (number_form_of (x.operation e) (x.first e) (x.second e) (x.third e)) NoNumber

  unfoldable pub truth_form : ℕ → TruthForm
  truth_form e = pick (ltb e x.count) (truth_form_of (x.operation e) (x.first e) (x.second e)) NoTruth

  -- Its sort goes by the operation's number.
  unfoldable pub is_number : ℕ → Bool
  is_number e = ltb e x.count && leb (x.operation e) 7

  unfoldable pub is_truth : ℕ → Bool
  is_truth e = ltb e x.count && (leb 8 (x.operation e) && leb (x.operation e) 14)
