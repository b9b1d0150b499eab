-- The cases for proof hold: one fact, which the checker computes. Demand 3 of the pedal example is one instance.
-- Assumes nothing.
use Prim.Native.Nat.{ℕ}
use mathlib.Core.Path.{◌≡◌, refl, ap}
use mathlib.Core.List.{List, [], ◌∷◌, map}
use Rattle.mdp.specs.Graph.{round}
use Rattle.folder.specs.Fields.{u16, u32, signed16}
use Rattle.folder.specs.Contents.{due_start, entry_ok, body, count_of, field, field4}
use Rattle.folder.specs.Scan.{first_bad}
use Rattle.folder.specs.Tab.{tab, passing, same_list}
use Rattle.folder.specs.Table.{refusal, outcome, all_rules, first_broken}
use Rattle.expressions.specs.Entries.{number_form_of, truth_form_of, number_form, truth_form, is_number, is_truth}
use Rattle.expressions.specs.Levels.{number_at, truth_at}
use Rattle.whole.specs.Order.{min_z, max_z, eq_z}
use Rattle.expressions.specs.Reading.{has_bit, look_in, read_number, read_truth}
use Rattle.expressions.specs.Mentions.{union, mentions, missing}
use Rattle.expressions.specs.Ranges.{range_of, inside}
use Rattle.expressions.specs.Combinations.{product_of, width_of, choices, combinations, left_of, value_in, combination}
use Rattle.expressions.specs.States.{number_by_all, truth_by_all, number_read, truth_read}
use Rattle.expressions.specs.Rules.{depth_of, number_fits, truth_fits, entry_fits, range_fits}
use Rattle.model.specs.Layout.{record_size, record_count}
use Rattle.model.specs.Model.{bound}
use Rattle.model.specs.Rules.{records_fit, variable_fits, terms_fit, command_fits, records_add_up, assigned_fits, branch_fits, weights_total}
use Rattle.model.specs.Chances.{next}
use Rattle.model.specs.Step as Step
use Rattle.model.specs.Pedal.{pedal_model}
use Rattle.graph.specs.Simulation.{edge_size, edge_after, edges_start, edge_whole, edge_at, kind_of}
use Rattle.graph.specs.Rules.{nodes_fit, head_fits, values_fit, node_fits, edge_fits, edges_fit, root_fits, A1, A2, B1, result_is, label_follows, follows, edge_follows, B2, C3, C1, C2, value_rule}
use Rattle.graph.specs.Seconds.{second19, second_of, second21}
use Rattle.graph.specs.Table.{graph_outcome, graph_answer, GraphAnswer}
use Rattle.graph.specs.Figures.{figures, figure_outcome, figure_part}
use Rattle.laguipy.specs.Cases.{Case, Told, checked, figured, stepped, cases}
use Rattle.graph.specs.Pedal.{pedal_graph}
use Rattle.graph.specs.Demand.{Bounds}
use Rattle.graph.specs.declared.Summary.{Summary}
use Rattle.graph.proofs.Demand.{demand-3}
use Rattle.std.specs.Prelude.{Err, Ok}

-- All that the calls are defined by, opened.
unfoldable computing : ℕ
unfolding u16 u32 signed16 due_start entry_ok body count_of field field4 first_bad tab passing same_list outcome all_rules first_broken number_form_of truth_form_of number_form truth_form is_number is_truth number_at truth_at min_z max_z eq_z read_number read_truth product_of width_of choices combinations left_of value_in combination number_by_all truth_by_all number_read truth_read range_of inside depth_of number_fits truth_fits entry_fits range_fits record_size record_count bound records_fit variable_fits terms_fit command_fits records_add_up assigned_fits branch_fits weights_total next Step.value_fits Step.step_outcome Step.step_row edge_size edge_after edges_start edge_whole edge_at kind_of has_bit look_in nodes_fit head_fits values_fit node_fits edge_fits edges_fit root_fits A1 A2 B1 result_is label_follows follows edge_follows B2 union mentions missing second19 second_of second21 C3 C1 C2 value_rule graph_outcome graph_answer round figures figure_outcome figure_part
computing = 0

pub cases-hold : map (λ (c : Case). c.told) cases ≡ map (λ (c : Case). c.due) cases
unfolding computing
cases-hold = refl

-- Demand 3 is not empty: the pedal example is accepted, and so every strategy is bounded by its root value.
abbrev answer-told : List Told → GraphAnswer
answer-told [] = Err (refusal 0 0)
answer-told (checked a ∷ ts) = a
answer-told (figured o part ∷ ts) = Err (refusal 0 0)
answer-told (stepped o row ∷ ts) = Err (refusal 0 0)

abbrev pub pedal_summary : Summary
pedal_summary = record { root = 10000000; waiting = 0; expanded = 3; covered = 2; target = 1 }

pedal-accepted : graph_answer pedal_model pedal_graph ≡ Ok pedal_summary
pedal-accepted = ap answer-told cases-hold

pub pedal-bounds : Bounds pedal_model pedal_graph pedal_summary
pedal-bounds = (demand-3 pedal_model pedal_graph).0 pedal_summary pedal-accepted
