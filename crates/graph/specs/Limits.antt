-- Document 01's limits on a graph and on figures.
-- Assumes nothing.
use Rattle.std.specs.Prelude.{ℕ}

-- S: certainty, in units.
abbrev pub units : ℕ
units = 1000000000

-- Bytes of the folder.
abbrev pub least_bytes : ℕ
least_bytes = 16

abbrev pub most_bytes : ℕ
most_bytes = 1048576

abbrev pub most_nodes : ℕ
most_nodes = 4096

-- Steps of a figure.
abbrev pub most_steps : ℕ
most_steps = 10000

-- Slots of the index.
abbrev pub slot_count : ℕ
slot_count = 8192
