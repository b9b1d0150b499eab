use mathlib.Core.Path.{ap, ◌∙◌}
use Rattle.index.specs.Index.{index_number, index_places, index_listed}
use Rattle.laguipy_c.proofs.NumberLaws.{of-index}
use Rattle.laguipy_c.proofs.laguipy_index.Goals as goal

pub returns : goal.returns
returns c =
    record { value = c.number_of.ensures ∙ (of-index c.index-a.result).0 ∙ ap index_number c.index-a.ensures.value; slots_after = c.index-a.ensures.slots_after; answers_after = c.index-a.ensures.answers_after; listing_after = c.index-a.ensures.listing_after; place_after = c.places_of.ensures ∙ (of-index c.index-a.result).1 ∙ ap index_places c.index-a.ensures.value; listed_after = c.unwrap_or.ensures ∙ (of-index c.index-a.result).2 ∙ ap index_listed c.index-a.ensures.value }
