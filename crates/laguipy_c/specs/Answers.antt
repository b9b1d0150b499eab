-- Answers as numbers, for a caller who has no enums and no parts of slices. Those of an outcome and of each other answer
-- (`outcome_number`, `answer_number`, ..) are `number_of` and `places_of` at its type.
-- Assumes nothing.
use Rattle.std.specs.Prelude.{ℕ, List, [], ◌∷◌, length, Result, Ok, Err}
use Rattle.folder.specs.Pick.{pick}
use Rattle.folder.specs.Table.{places, no_places}
use Rattle.folder.specs.declared.Refusal.{Refusal}
use Rattle.model.specs.View.{view_start, view_part}
use Rattle.graph.specs.Figures.{figure_part, figure_in_first}

-- Document 01's number of an answer, and the two places returned with it. Acceptance has none: 0.
abbrev pub number_of : {T : Type 0} → Result T Refusal → ℕ
number_of (Ok _) = 0
number_of (Err f) = f.number

abbrev pub places_of : {T : Type 0} → Result T Refusal → List ℕ
places_of (Ok _) = no_places
places_of (Err f) = places f

-- The view's part: where it starts in the folder, and its length.
abbrev pub view_place : List ℕ → ℕ → ℕ → List ℕ
view_place m e i = view_start m e i ∷ length (view_part m e i) ∷ []

-- The figure call's part, which starts where its row does: the row, 0 first and 1 second, and its length.
abbrev pub figure_place : List ℕ → List ℕ → ℕ → List ℕ → List ℕ → List ℕ
figure_place m g h first second =
    pick (figure_in_first m g h first second) 0 1 ∷ length (figure_part m g h first second) ∷ []
