use mathlib.Core.Path.{ap, ◌∙◌}
use Rattle.folder.specs.Table.{outcome_number, outcome_places}
use Rattle.laguipy_c.proofs.NumberLaws.{of-outcome}
use Rattle.laguipy_c.proofs.laguipy_step.Goals as goal

pub returns : goal.returns
returns c =
    record { value = c.number_of.ensures ∙ (of-outcome c.step-o.result).0 ∙ ap outcome_number c.step-o.ensures.value; res_after = c.step-o.ensures.res_after; place_after = c.places_of.ensures ∙ (of-outcome c.step-o.result).1 ∙ ap outcome_places c.step-o.ensures.value }
