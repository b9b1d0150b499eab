-- The model check: rows 1 to 11 in the table's order.
-- Assumes nothing.
use Rattle.std.specs.Prelude.{ℕ, List, [], ◌∷◌, ◌++◌}
use Rattle.folder.specs.Contents.{entry_ok}
use Rattle.folder.specs.Table.{Row, row, single, outcome, Outcome}
use Rattle.expressions.specs.Rules.{entry_fits, range_fits}
use Rattle.model.specs.Layout.{bodies}
use Rattle.model.specs.Model.{Model, model_of, bound}
use Rattle.model.specs.Rules.{bytes_fit, records_fit, variable_fits, terms_fit, command_fits, records_add_up, branch_fits, weights_total}

-- The rows that say that the bytes are a folder of five bodies of records.
abbrev pub folder_rows : List ℕ → List Row
folder_rows m = single 1 0 (bytes_fit m) ∷ row 2 bodies (entry_ok m bodies) ∷ row 3 bodies (records_fit m) ∷ []

-- And those on what they hold.
abbrev pub content_rows : Model → List Row
content_rows M =
    row 4 M.variables (variable_fits M)
    ∷ row 5 M.entries.count (entry_fits M.entries M.variables)
    ∷ row 6 M.entries.count (range_fits M.entries (bound M))
    ∷ row 7 2 (terms_fit M)
    ∷ row 8 M.commands (command_fits M)
    ∷ single 9 0 (records_add_up M)
    ∷ row 10 M.records (branch_fits M)
    ∷ row 11 M.commands (weights_total M)
    ∷ []

abbrev pub model_rows : List ℕ → List Row
model_rows m = folder_rows m ++ content_rows (model_of m)

-- What the model check answers.
unfoldable pub model_outcome : List ℕ → Outcome
model_outcome m = outcome (model_rows m)
