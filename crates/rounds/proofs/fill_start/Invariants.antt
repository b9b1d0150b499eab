use Rattle.model.specs.Model.{model_of}
use Rattle.graph.specs.Simulation.{simulation_of}
use Rattle.folder.proofs.FillLaws.{Filled}
use Rattle.rounds.specs.Rounds.{own_start}
use Rattle.rounds.proofs.fill_start.Given as goal

abbrev pub invariant-loop-n : goal.invariant-loop-n
invariant-loop-n l = Filled (own_start (model_of l.s.model) (simulation_of (model_of l.s.model) l.s.graph)) l.nodes l.initial.dst l.dst l.n
