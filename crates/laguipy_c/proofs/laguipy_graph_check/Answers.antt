use mathlib.Core.Path.{ap, ◌∙◌}
use Rattle.graph.specs.Table.{answer_number, answer_places, answer_values}
use Rattle.laguipy_c.proofs.NumberLaws.{of-graph}
use Rattle.laguipy_c.proofs.laguipy_graph_check.Goals as goal

pub returns : goal.returns
returns c =
    record { value = c.number_of.ensures ∙ (of-graph c.graph_check-a.result).0 ∙ ap answer_number c.graph_check-a.ensures; place_after = c.places_of.ensures ∙ (of-graph c.graph_check-a.result).1 ∙ ap answer_places c.graph_check-a.ensures; values_after = c.answer_values.ensures ∙ ap answer_values c.graph_check-a.ensures }
