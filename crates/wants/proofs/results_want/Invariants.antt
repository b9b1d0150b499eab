use mathlib.Core.Path.{◌≡◌}
use lib.ListN.{length}
use Rattle.model.specs.Model.{model_of}
use Rattle.building.specs.First.{given}
use Rattle.building.specs.Building.{enabled}
use Rattle.building.proofs.FirstLaws.{Searched}
use Rattle.held.specs.Held.{state_in}
use Rattle.wants.specs.Wants.{branches_in, LabelFlagged}
use Rattle.wants.proofs.Walk.{Stepped}
use Rattle.wants.proofs.results_want.Given as goal

abbrev pub invariant-loop-c : goal.invariant-loop-c
invariant-loop-c l = Searched (λ i. given (enabled (model_of l.m) (state_in l.m l.nb l.n) i) (branches_in l.m l.nb l.n i)) (model_of l.m).commands l.c
    × Stepped l.m l.nb l.n l.c l.record l.node × LabelFlagged l.m l.nb l.n l.known × (length l.known ≡ length l.initial.known)
