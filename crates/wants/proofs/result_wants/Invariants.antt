use mathlib.Core.Path.{◌≡◌}
use lib.ListN.{length}
use Rattle.expressions.specs.Reading.{has_bit}
use Rattle.model.specs.Model.{model_of}
use Rattle.building.specs.First.{given}
use Rattle.building.proofs.FirstLaws.{Searched}
use Rattle.held.specs.Held.{set_in}
use Rattle.wants.specs.Wants.{number_wants_in, LabelFlagged}
use Rattle.wants.proofs.result_wants.Given as goal

abbrev pub invariant-loop-v : goal.invariant-loop-v
invariant-loop-v l = Searched (λ i. given (has_bit (set_in l.m l.nb l.lead.node) i) (number_wants_in l.m l.nb l.n ((model_of l.m).assigned l.lead.record i))) (model_of l.m).variables l.v
    × LabelFlagged l.m l.nb l.n l.known × (length l.known ≡ length l.initial.known)
