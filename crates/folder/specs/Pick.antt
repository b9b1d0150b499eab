-- One of two, by a test.
-- Assumes nothing.
use Rattle.std.specs.Prelude.{Bool, true, false, not, ◌||◌}

abbrev pub pick : {A : Type 0} → Bool → A → A → A
pick true a b = a
pick false a b = b

-- Where the first test passes, so does the second.
abbrev pub implies : Bool → Bool → Bool
implies a b = not a || b
