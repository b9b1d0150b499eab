-- Document 01, "Models": what an expression is in a state, one value per variable.
-- Assumes nothing.
use Rattle.std.specs.Prelude.{ℕ, List, Bool, true, false, not, ◌&&◌, ◌||◌, get_or, ℤ, pos}
use Rattle.folder.specs.Pick.{pick}
use Rattle.expressions.specs.Entries.{Entries}
use Rattle.expressions.specs.Levels.{Interpretation, number, truth}
use Rattle.expressions.specs.Operations.{arith_z, relates}
use Rattle.expressions.specs.declared.Join.{Join}
use Rattle.expressions.specs.declared.Join.TheVariants.{And, Or}

abbrev pub State : Type 0
State = List ℤ

-- The value of variable i in a state.
abbrev pub value_of : State → ℕ → ℤ
value_of s i = get_or s i (pos 0)

abbrev pub joins : Join → Bool → Bool → Bool
joins And a b = a && b
joins Or a b = a || b

abbrev pub meaning : State → Interpretation ℤ Bool
meaning s = record {
  constant = λ z. z;
  variable = λ i. value_of s i;
  binary = λ k a b. arith_z k a b;
  choose = λ t a b. pick t a b;
  no_number = pos 0;
  compare = λ k a b. relates k a b;
  negate = λ t. not t;
  join = λ k t u. joins k t u;
  always = true;
  no_truth = false;
}

-- The number, or the truth, that entry e is in the state s.
abbrev pub number_in : Entries → State → ℕ → ℤ
number_in x s e = number (meaning s) x e

abbrev pub truth_in : Entries → State → ℕ → Bool
truth_in x s e = truth (meaning s) x e
