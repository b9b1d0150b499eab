-- The pedal example, built and written: computed by the checker.
-- Assumes nothing.
use Prim.Native.Nat.{ℕ, zero, suc}
use mathlib.Core.Path.{◌≡◌, refl, sym, ap, ◌∙◌}
use mathlib.Core.List.{List, [], ◌∷◌}
use native.Mathlib.Omega.{arith}
use Rattle.folder.specs.Fields.{u16, u32, signed16}
use Rattle.folder.specs.Contents.{due_start, entry_ok, body, count_of, field}
use Rattle.folder.specs.Scan.{first_bad}
use Rattle.folder.specs.Tab.{tab, passing}
use Rattle.folder.specs.Table.{outcome}
use Rattle.whole.specs.Order.{min_z, max_z, eq_z}
use Rattle.expressions.specs.Entries.{number_form_of, truth_form_of, number_form, truth_form, is_number, is_truth}
use Rattle.expressions.specs.Levels.{number_at, truth_at}
use Rattle.expressions.specs.Reading.{has_bit, look_in, read_number, read_truth}
use Rattle.expressions.specs.Mentions.{union, mentions, missing}
use Rattle.expressions.specs.Ranges.{range_of, inside}
use Rattle.expressions.specs.Rules.{depth_of, number_fits, truth_fits, entry_fits, range_fits}
use Rattle.expressions.specs.Combinations.{product_of, width_of, choices, combinations, left_of, value_in, combination}
use Rattle.expressions.specs.States.{number_by_all, truth_by_all, number_read, truth_read}
use Rattle.model.specs.Layout.{record_size, record_count}
use Rattle.model.specs.Model.{Model, model_of, bound}
use Rattle.model.specs.Rules.{records_fit, variable_fits, terms_fit, command_fits, records_add_up, assigned_fits, branch_fits, weights_total}
use Rattle.model.specs.Table.{model_outcome}
use Rattle.model.specs.Chances.{next}
use Rattle.model.specs.Pedal.{pedal_model}
use Rattle.model.proofs.Decided.{accepted-valid}
use Rattle.graph.specs.Limits.{most_bytes, most_nodes, units}
use Rattle.graph.specs.Pedal.{node, graph_folder, pedal_edges}
use Rattle.building.specs.First.{◌orelse◌, given, onward, first, put, grown}
use Rattle.building.specs.Building.{Building, start_set, offspring, agrees, as_simulation}
use Rattle.building.specs.Length.{edges_length, edges_before, graph_length, length_with}
use Rattle.building.specs.Moves.{Move, track, adopt, cover_by, reach, expand, Limit, apply, seed, truth_wants, number_wants, guards_want, result_wants, results_want, adopted, lowest_waiting, lowest_cover, opening, next_move, advance, after}
use Rattle.building.specs.Values.{least_value, swept, rounds_of}
use Rattle.building.specs.Built.{built, values_of, built_graph}
use Rattle.building.proofs.Ending.{reached-built}
use Rattle.written.specs.Bytes.{chain, graph_bytes}
use Rattle.std.specs.Prelude.{Ok, None, Some}

-- All that a graph is built and written by, and the model check, opened.
unfoldable computing : ℕ
unfolding u16 u32 signed16 due_start entry_ok body count_of field first_bad tab passing outcome min_z max_z eq_z number_form_of truth_form_of number_form truth_form is_number is_truth number_at truth_at has_bit look_in read_number read_truth union mentions missing range_of inside depth_of number_fits truth_fits entry_fits range_fits product_of width_of choices combinations left_of value_in combination number_by_all truth_by_all number_read truth_read record_size record_count bound records_fit variable_fits terms_fit command_fits records_add_up assigned_fits branch_fits weights_total model_outcome next ◌orelse◌ given onward first put grown start_set offspring agrees edges_length edges_before graph_length length_with truth_wants number_wants guards_want result_wants results_want adopted lowest_waiting lowest_cover opening next_move advance after least_value swept rounds_of chain graph_bytes
computing = 0

-- As wide as a graph may be.
abbrev limit : Limit
limit = record { most = most_nodes; longest = most_bytes }

abbrev M : Model
M = model_of pedal_model

-- ---- its moves, after which there is none
abbrev moves : ℕ → Building → List Move
moves zero B = []
moves (suc k) B = elim (next_move M limit B) [ None ↦ [] | Some m ↦ m ∷ moves k (apply M m B) ]

pub pedal-moves : moves 13 (seed M) ≡ expand 0 ∷ track 0 0 ∷ expand 1 ∷ track 1 0 ∷ expand 2 ∷ track 2 0 ∷ cover_by 3 0 ∷ adopt 3 ∷ cover_by 4 1 ∷ adopt 4 ∷ reach 5 ∷ track 5 0 ∷ []
unfolding computing
pedal-moves = refl

abbrev B : Building
B = after M limit 12 (seed M)

no_more : next_move M limit B ≡ None
unfolding computing
no_more = refl

model-accepted : model_outcome pedal_model ≡ (Ok tt)
unfolding computing
model-accepted = refl

pedal-built : B ≡ built M limit
pedal-built = reached-built M limit ((accepted-valid pedal_model).0 model-accepted).model (omega arith) (record { moves = 12; is = refl }) no_more

-- ---- its bytes: document 01's pedal graph, but for the values. Nodes 0 and 3 keep S, since 0 has an edge to 3, which it covers.
abbrev pedal_bytes : ℕ → ℕ → ℕ → List ℕ
pedal_bytes value1 value2 value4 =
    graph_folder (
    node 1 0 units 2 1 (0 ∷ 0 ∷ []) (0 ∷ 0 ∷ [])
    ∷ node 1 0 value1 0 1 (3 ∷ 0 ∷ []) (3 ∷ 0 ∷ [])
    ∷ node 1 0 value2 1 1 (1 ∷ 0 ∷ []) (1 ∷ 0 ∷ [])
    ∷ node 2 0 units 0 1 (0 ∷ 1 ∷ []) (0 ∷ 0 ∷ [])
    ∷ node 2 1 value4 0 1 (3 ∷ 0 ∷ []) (3 ∷ 0 ∷ [])
    ∷ node 3 0 units 0 1 (2 ∷ 0 ∷ []) (2 ∷ 0 ∷ [])
    ∷ []
    ) pedal_edges

abbrev bytes_after : Building → ℕ → List ℕ
bytes_after C rounds = graph_bytes M (as_simulation M C (values_of M C rounds))

bytes-0 : bytes_after B 0 ≡ pedal_bytes units units units
unfolding computing
bytes-0 = refl

bytes-1 : bytes_after B 1 ≡ pedal_bytes 0 units 0
unfolding computing
bytes-1 = refl

bytes_2 : bytes_after B 2 ≡ pedal_bytes 0 100000000 0
unfolding computing
bytes_2 = refl

of-built : (rounds : ℕ) → graph_bytes M (built_graph M limit rounds) ≡ bytes_after B rounds
of-built rounds = ap (λ (C : Building). bytes_after C rounds) (sym pedal-built)

pub pedal-0 : graph_bytes M (built_graph M limit 0) ≡ pedal_bytes units units units
pedal-0 = of-built 0 ∙ bytes-0

pub pedal-1 : graph_bytes M (built_graph M limit 1) ≡ pedal_bytes 0 units 0
pedal-1 = of-built 1 ∙ bytes-1

pub pedal-2 : graph_bytes M (built_graph M limit 2) ≡ pedal_bytes 0 100000000 0
pedal-2 = of-built 2 ∙ bytes_2
