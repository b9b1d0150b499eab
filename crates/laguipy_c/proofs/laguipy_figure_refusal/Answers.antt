use mathlib.Core.Path.{ap, ◌∙◌}
use Rattle.folder.specs.Table.{outcome_number, outcome_places}
use Rattle.laguipy_c.proofs.NumberLaws.{of-outcome}
use Rattle.laguipy_c.proofs.laguipy_figure_refusal.Goals as goal

pub returns : goal.returns
returns c =
    record { value = c.number_of.ensures ∙ (of-outcome c.figure_refusal-o.result).0 ∙ ap outcome_number c.figure_refusal-o.ensures; place_after = c.places_of.ensures ∙ (of-outcome c.figure_refusal-o.result).1 ∙ ap outcome_places c.figure_refusal-o.ensures }
