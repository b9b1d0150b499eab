use mathlib.Core.Path.{◌≡◌}
use lib.ListN.{length}
use Rattle.model.specs.Model.{model_of}
use Rattle.building.proofs.FirstLaws.{Searched}
use Rattle.wants.specs.Wants.{truth_wants_in, LabelFlagged}
use Rattle.wants.proofs.guards_want.Given as goal

abbrev pub invariant-loop-c : goal.invariant-loop-c
invariant-loop-c l = Searched (λ i. truth_wants_in l.m l.nb l.n ((model_of l.m).guard i)) (model_of l.m).commands l.c × LabelFlagged l.m l.nb l.n l.known × (length l.known ≡ length l.initial.known)
