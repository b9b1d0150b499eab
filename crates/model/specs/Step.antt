-- The step of a state by command and branch: rows 29 to 33, after the model's, and the content of the result row.
-- Assumes nothing.
use Rattle.std.specs.Prelude.{ℕ, Bool, ◌&&◌, List, [], ◌∷◌, ◌++◌, length, drop, ltb, leb, eqb, ℤ, Err, Ok}
use Rattle.folder.specs.Table.{Row, row, single, outcome, Outcome}
use Rattle.expressions.specs.Meaning.{State, value_of, truth_in}
use Rattle.model.specs.Model.{Model, model_of}
use Rattle.model.specs.Rules.{between}
use Rattle.model.specs.Table.{model_rows}
use Rattle.model.specs.Chances.{next}

module _ (M : Model) (s : State) (c b : ℕ) (result : List ℤ) where
  -- Row 29: the state has one value per variable, and the result row is not shorter.
  abbrev pub lengths_fit : Bool
  lengths_fit = eqb (length s) M.variables && leb M.variables (length result)

  -- Row 30: variable v's value is in its range.
  unfoldable pub value_fits : ℕ → Bool
  value_fits v = between (M.low v) (M.high v) (value_of s v)

  abbrev pub step_rows : List Row
  step_rows =
      single 29 0 lengths_fit
      ∷ row 30 M.variables value_fits
      ∷ single 31 c (ltb c M.commands)
      ∷ single 32 c (truth_in M.entries s (M.guard c))
      ∷ single 33 b (ltb b (M.branches c))
      ∷ []

  -- The result row at exit: the new state stands first, and the later elements stay; refused, all of it stays.
  abbrev pub step_row_of : Outcome → List ℤ
  step_row_of (Ok _) = next M c b s ++ drop M.variables result
  step_row_of (Err f) = result

-- What the step answers.
unfoldable pub step_outcome : List ℕ → State → ℕ → ℕ → List ℤ → Outcome
step_outcome m s c b result = outcome (model_rows m ++ step_rows (model_of m) s c b result)

unfoldable pub step_row : List ℕ → State → ℕ → ℕ → List ℤ → List ℤ
step_row m s c b result = step_row_of (model_of m) s c b result (step_outcome m s c b result)
