use Rattle.folder.proofs.FillLaws.{Filled}
use mathlib.Core.Path.{◌≡◌}
use Rattle.model.specs.Model.{model_of}
use Rattle.graph.specs.Simulation.{simulation_of}
use Rattle.graph.specs.Walks.{starts_at}
use Rattle.rounds.specs.Rounds.{own_next}
use Rattle.rounds.proofs.fill_next.Given as goal

abbrev pub invariant-loop-n : goal.invariant-loop-n
invariant-loop-n l = Filled (own_next (model_of l.s.model) (simulation_of (model_of l.s.model) l.s.graph) l.src) l.nodes l.initial.dst l.dst l.n × (l.at ≡ starts_at (model_of l.s.model) l.s.graph l.n)
