-- Document 01, "Folders": the five bodies of the model folder, and the sizes of their records.
-- Assumes nothing.
use Rattle.std.specs.Prelude.{ℕ, ◌+◌, ◌*◌, List, eqb}
use Rattle.folder.specs.Pick.{pick}
use Rattle.folder.specs.Contents.{body, count_of}
use Rattle.model.specs.Limits.{most_variables, most_expressions, most_commands, most_records}

-- Bodies, and so contents entries: 0 terms, 1 variables, 2 expressions, 3 commands, 4 branches.
abbrev pub bodies : ℕ
bodies = 5

-- A value for each body.
abbrev pub select : ℕ → ℕ → ℕ → ℕ → ℕ → ℕ → ℕ
select e terms variables expressions commands branches =
    pick (eqb e 0) terms (pick (eqb e 1) variables (pick (eqb e 2) expressions (pick (eqb e 3) commands branches)))

-- Variables: low, high, initial.
abbrev pub variable_count : List ℕ → ℕ
variable_count m = count_of 6 (body m 1)

-- Bytes of a branch record: a weight, then an expression per variable.
abbrev pub branch_size : ℕ → ℕ
branch_size variables = 2 + 2 * variables

-- Bytes of a record of body e: terms are D and the target expression, expressions an operation and three fields,
-- commands a guard and a branch count.
unfoldable pub record_size : List ℕ → ℕ → ℕ
record_size m e = select e 4 6 8 4 (branch_size (variable_count m))

-- Records of body e, and at most how many there may be; at least 1.
unfoldable pub record_count : List ℕ → ℕ → ℕ
record_count m e = count_of (record_size m e) (body m e)

abbrev pub most_of : ℕ → ℕ
most_of e = select e 1 most_variables most_expressions most_commands most_records
