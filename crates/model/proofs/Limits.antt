-- What the folder rules say of the counts.
-- Assumes nothing.
use Prim.Native.Nat.{ℕ, ◌+◌, ◌<◌, ◌≤◌}
use mathlib.Core.Path.{◌≡◌}
use mathlib.Core.List.{List}
use native.Mathlib.Omega.{arith}
use Rattle.folder.specs.Contents.{body, count_of}
use Rattle.model.specs.Limits.{most_variables, most_expressions, most_commands, most_records}
use Rattle.model.specs.Layout.{variable_count, branch_size, record_size, record_count}
use Rattle.model.specs.Model.{model_of, first_record}
use Rattle.model.specs.Valid.{FolderRight, Valid}
use Rattle.model.proofs.Chances.{records-end}

pub record Limits (m : List ℕ) : Type 0 where
  pub variables : variable_count m ≤ most_variables
  pub expressions : count_of 8 (body m 2) ≤ most_expressions
  pub commands : count_of 4 (body m 3) ≤ most_commands
  pub records : count_of (branch_size (variable_count m)) (body m 4) ≤ most_records

pub limits : {m : List ℕ} → FolderRight m → Limits m
unfolding record_count record_size
limits f = record {
  variables = (f.records 1 (omega arith)).few;
  expressions = (f.records 2 (omega arith)).few;
  commands = (f.records 3 (omega arith)).few;
  records = (f.records 4 (omega arith)).few;
}

-- A command's branch records are among the records, of which there are few.
pub records-small : {m : List ℕ} → Valid m → (c : ℕ) → c < (model_of m).commands → first_record (model_of m) c + (model_of m).branches c ≤ most_records
records-small {m} valid c l = omega (arith, (limits valid.folder).records, records-end (model_of m) valid.model c l)

-- The counts that the rows ask, as the code has them.
module _ (m : List ℕ) where
  pub commands-are : {n : ℕ} → n ≡ record_count m 3 → n ≡ count_of 4 (body m 3)
  unfolding record_count record_size
  commands-are e = e

  pub records-are : {n : ℕ} → n ≡ record_count m 4 → n ≡ count_of (branch_size (variable_count m)) (body m 4)
  unfolding record_count record_size
  records-are e = e
