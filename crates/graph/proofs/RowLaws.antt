-- Rows 12 to 17: what they ask, how the whole table goes on from them, and what they give of counts.
-- Assumes nothing.
use Prim.Native.Nat.{ℕ, ◌<◌, ◌≤◌}
use mathlib.Core.Path.{◌≡◌}
use mathlib.Core.Logic.{◌↔◌}
use mathlib.Core.List.{List}
use native.Mathlib.Omega.{arith}
use Rattle.folder.specs.Fields.{field_limit}
use Rattle.folder.specs.Table.{outcome}
use Rattle.folder.specs.declared.Refusal.{Refusal}
use Rattle.folder.proofs.TableLaws.{accepted-asks, accepted-then, refused-then}
use Rattle.model.specs.Limits.{most_variables}
use Rattle.model.specs.Layout.{variable_count}
use Rattle.model.specs.Model.{Model, model_of}
use Rattle.model.specs.Valid as Models
use Rattle.model.proofs.Limits.{limits}
use Rattle.graph.specs.Simulation.{node_count, simulation_of}
use Rattle.graph.specs.Table.{first_rows, rule_rows, graph_rows}
use Rattle.graph.specs.Valid.{FolderRight, RowsRight}
use Rattle.graph.proofs.Decided.{first-ask}
use Rattle.std.specs.Prelude.{Err, Ok}

module _ (M : Model) (g : List ℕ) where
  -- They hold if and only if the rules do.
  pub rows_right : (outcome (first_rows M g) ≡ (Ok tt)) ↔ RowsRight M g
  rows_right = accepted-asks (first-ask M g)

  -- Where they hold the table's outcome is that of the rows after them, and where one is broken it is theirs.
  pub rows_then : outcome (first_rows M g) ≡ (Ok tt) → outcome (graph_rows M g) ≡ outcome (rule_rows M (simulation_of M g))
  rows_then = accepted-then (first_rows M g) (rule_rows M (simulation_of M g))

  pub rows-refused : (f : Refusal) → outcome (first_rows M g) ≡ Err f → outcome (graph_rows M g) ≡ Err f
  rows-refused = refused-then (first_rows M g) (rule_rows M (simulation_of M g))

-- The counts that the code's reads of a node ask for.
pub few-enough : {m g : List ℕ} {n : ℕ} → Models.FolderRight m → FolderRight (model_of m) g → n < node_count (model_of m) g → (variable_count m ≤ most_variables) × (n ≤ field_limit)
few-enough f h l = ((limits f).variables, omega (arith, l, h.few))
