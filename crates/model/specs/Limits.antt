-- Document 01's limits on a model.
-- Assumes nothing.
use Rattle.std.specs.Prelude.{ℕ, ◌-◌, ℤ, pos, negsuc}
use Rattle.expressions.specs.Limits as Expressions

-- Bytes of the folder.
abbrev pub least_bytes : ℕ
least_bytes = 40

abbrev pub most_bytes : ℕ
most_bytes = 40000

-- Records of the bodies; branches of a command. (expressions/specs/Limits.antt has the first two: 16 and 512.)
abbrev pub most_variables : ℕ
most_variables = Expressions.most_variables

abbrev pub most_expressions : ℕ
most_expressions = Expressions.most_expressions

abbrev pub most_commands : ℕ
most_commands = 64

abbrev pub most_records : ℕ
most_records = 1024

abbrev pub most_branches : ℕ
most_branches = 16

-- A variable's bounds: −30,000 to 30,000. (expressions/specs/Limits.antt has the number.)
abbrev pub least_bound : ℤ
least_bound = negsuc (Expressions.farthest_bound - 1)

abbrev pub most_bound : ℤ
most_bound = pos Expressions.farthest_bound
