use mathlib.Core.Path.{ap, ◌∙◌}
use Rattle.assembly.specs.Build.{build_number, build_places, build_length}
use Rattle.laguipy_c.proofs.NumberLaws.{of-build}
use Rattle.laguipy_c.proofs.laguipy_build.Goals as goal

pub returns : goal.returns
returns c =
    record { value = c.number_of.ensures ∙ (of-build c.build-a.result).0 ∙ ap build_number c.build-a.ensures.value; out_after = c.build-a.ensures.out_after; place_after = c.places_of.ensures ∙ (of-build c.build-a.result).1 ∙ ap build_places c.build-a.ensures.value; length_after = c.unwrap_or.ensures ∙ (of-build c.build-a.result).2 ∙ ap build_length c.build-a.ensures.value }
