-- What a label says, three ways: a number or a truth, or that it is unknown; and then the variable that the label lacks.
-- Assumes nothing.
use Rattle.std.specs.Prelude.{ℕ, ℤ, Bool, Option, Result}

abbrev pub Number : Type 0
Number = Option ℤ

abbrev pub Truth : Type 0
Truth = Option Bool

-- The same, and where it is unknown the lowest variable that the label would have to track besides (document 02, 2.2).
abbrev pub NumberReading : Type 0
NumberReading = Result ℤ ℕ

abbrev pub TruthReading : Type 0
TruthReading = Result Bool ℕ
