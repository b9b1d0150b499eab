-- Document 01's limit on numbers.
-- Assumes nothing.
use Rattle.std.specs.Prelude.{ℕ}

-- How far from 0 the numbers of an expression are at most: sums and products of two such numbers fit 64 bits.
abbrev pub farthest : ℕ
farthest = 1000000
