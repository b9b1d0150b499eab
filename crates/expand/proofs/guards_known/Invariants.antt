use mathlib.Core.Path.{◌≡◌}
use lib.ListN.{length}
use Rattle.folder.proofs.ScanLaws.{Scanned}
use Rattle.expressions.specs.Reading.{is_known}
use Rattle.model.specs.Model.{model_of}
use Rattle.graph.specs.Simulation.{simulation_of}
use Rattle.graph.specs.Labels.{truth_of}
use Rattle.expand.specs.Node.{LabelFlagged}
use Rattle.expand.proofs.guards_known.Given as goal

abbrev pub invariant-loop-c : goal.invariant-loop-c
invariant-loop-c l = Scanned (λ i. is_known (truth_of (model_of l.m) (simulation_of (model_of l.m) l.g) l.n ((model_of l.m).guard i))) l.commands l.c × LabelFlagged l.m l.g l.n l.known × (length l.known ≡ length l.initial.known)
