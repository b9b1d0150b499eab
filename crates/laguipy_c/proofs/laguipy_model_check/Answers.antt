use mathlib.Core.Path.{ap, ◌∙◌}
use Rattle.folder.specs.Table.{outcome_number, outcome_places}
use Rattle.laguipy_c.proofs.NumberLaws.{of-outcome}
use Rattle.laguipy_c.proofs.laguipy_model_check.Goals as goal

pub returns : goal.returns
returns c =
    record { value = c.number_of.ensures ∙ (of-outcome c.model_check-o.result).0 ∙ ap outcome_number c.model_check-o.ensures; place_after = c.places_of.ensures ∙ (of-outcome c.model_check-o.result).1 ∙ ap outcome_places c.model_check-o.ensures }
