use mathlib.Core.List.{[], ◌∷◌}
use lib.ListN.{length}
use Rattle.laguipy_c.proofs.laguipy_record_part.Goals as goal

pub returns : goal.returns
returns c = λ j. c.view_start-start.ensures j ∷ length (c.record_part-view.ensures.result_value j) ∷ []
