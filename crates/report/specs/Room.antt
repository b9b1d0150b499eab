-- Room for the report, and how far in it a line may start.
-- Assumes nothing.
use Rattle.std.specs.Prelude.{ℕ}

-- Bytes lent for the whole text, which is never longer; and what the first line asks for.
abbrev pub text_room : ℕ
text_room = 512

abbrev pub line_room : ℕ
line_room = 256

-- Where a later line starts at most, and the first of the figures' at most halfway, so that sums of positions fit.
abbrev pub latest_line : ℕ
latest_line = 4096
