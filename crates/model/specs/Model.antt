-- Document 01, "Models": a model, and the one that a folder's bytes hold.
-- Assumes nothing.
use Rattle.std.specs.Prelude.{ℕ, ◌+◌, List, ℤ}
use Rattle.mdp.specs.Sums.{sum}
use Rattle.folder.specs.Contents.{body, count_of, field, signed_field}
use Rattle.expressions.specs.Entries.{Entries, entries_of}
use Rattle.expressions.specs.Ranges.{bound_of}
use Rattle.expressions.specs.declared.Range.{Range}
use Rattle.model.specs.Layout.{branch_size}

pub record Model : Type 0 where
  -- Terms: D, and the entry of the target truth.
  pub total : ℕ
  pub target : ℕ
  -- Variables.
  pub variables : ℕ
  pub low : ℕ → ℤ
  pub high : ℕ → ℤ
  pub initial : ℕ → ℤ
  -- Expressions.
  pub entries : Entries
  -- Commands: the entry of the guard, and how many branches.
  pub commands : ℕ
  pub guard : ℕ → ℕ
  pub branches : ℕ → ℕ
  -- Branch records, in command order: the weight, and the entry assigned to each variable.
  pub records : ℕ
  pub weight : ℕ → ℕ
  pub assigned : ℕ → ℕ → ℕ

-- The model that five bodies hold. A function that has only some of them is stated with the others empty.
abbrev pub model_in : List ℕ → List ℕ → List ℕ → List ℕ → List ℕ → Model
model_in terms variables expressions commands branches = record {
  total = field 4 terms 0 0;
  target = field 4 terms 0 1;
  variables = count_of 6 variables;
  low = λ v. signed_field 6 variables v 0;
  high = λ v. signed_field 6 variables v 1;
  initial = λ v. signed_field 6 variables v 2;
  entries = entries_of expressions;
  commands = count_of 4 commands;
  guard = λ c. field 4 commands c 0;
  branches = λ c. field 4 commands c 1;
  records = count_of (branch_size (count_of 6 variables)) branches;
  weight = λ r. field (branch_size (count_of 6 variables)) branches r 0;
  assigned = λ r v. field (branch_size (count_of 6 variables)) branches r (1 + v);
}

abbrev pub model_of : List ℕ → Model
model_of m = model_in (body m 0) (body m 1) (body m 2) (body m 3) (body m 4)

module _ (M : Model) where
  -- The range of variable v.
  unfoldable pub bound : ℕ → Range
  bound v = bound_of M.variables M.low M.high v

  -- The first branch record of command c: its branches stand there, after those of the commands before.
  abbrev pub first_record : ℕ → ℕ
  first_record c = sum c (λ i _. M.branches i)
