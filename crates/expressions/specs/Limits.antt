-- The limits that reading expressions stands on. (model/specs/Limits.antt has all of a model's.)
-- Assumes nothing.
use Rattle.std.specs.Prelude.{ℕ, ◌-◌, ◌^◌}

abbrev pub most_variables : ℕ
most_variables = 16

abbrev pub most_expressions : ℕ
most_expressions = 512

-- How far a variable's bound may be from 0.
abbrev pub farthest_bound : ℕ
farthest_bound = 30000

-- What stands for a variable where none is concerned.
abbrev pub no_variable : ℕ
no_variable = 65535

-- The tracked set that has every variable.
abbrev pub all_tracked : ℕ
all_tracked = 2 ^ most_variables - 1

-- Document 02, 2.4: how many combinations a reading looks at.
abbrev pub most_combinations : ℕ
most_combinations = 4096
