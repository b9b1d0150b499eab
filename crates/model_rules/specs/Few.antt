-- How many records the bodies of a model folder have at most.
-- Assumes nothing.
use Rattle.std.specs.Prelude.{List, ℕ, ◌≤◌}
use Rattle.folder.specs.Contents.{count_of}
use Rattle.model.specs.Limits.{most_variables, most_expressions, most_commands, most_records}
use Rattle.model.specs.Layout.{branch_size}

-- The counts of four bodies are within the limits of row 3.
abbrev pub Few : List ℕ → List ℕ → List ℕ → List ℕ → Type 0
Few variables expressions commands branches =
    (count_of 6 variables ≤ most_variables)
    × (count_of 8 expressions ≤ most_expressions)
    × (count_of 4 commands ≤ most_commands)
    × (count_of (branch_size (count_of 6 variables)) branches ≤ most_records)
