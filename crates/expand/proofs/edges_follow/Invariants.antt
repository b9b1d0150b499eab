use mathlib.Core.Path.{◌≡◌}
use Rattle.folder.proofs.ScanLaws.{Scanned}
use Rattle.model.specs.Model.{model_of}
use Rattle.graph.specs.Simulation.{edge_at, simulation_of}
use Rattle.expand.specs.Follow.{edge_by, flags_of}
use Rattle.expand.proofs.edges_follow.Given as goal

abbrev pub invariant-loop-e : goal.invariant-loop-e
invariant-loop-e l = Scanned (edge_by (model_of l.m) (simulation_of (model_of l.m) l.g) l.n (flags_of l.m l.g l.known l.state)) l.edges l.e × (l.p ≡ edge_at (model_of l.m) l.g l.n l.e)
