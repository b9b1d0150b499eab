use lib.ListN.{get_or}
use Rattle.model.specs.Model.{model_of}
use Rattle.graph.specs.Simulation.{simulation_of}
use Rattle.rounds.specs.Rounds.{source}
use Rattle.folder.proofs.FillLaws.{Filled}
use Rattle.rounds.proofs.fill_covers.Given as goal

abbrev pub invariant-loop-n : goal.invariant-loop-n
invariant-loop-n l = Filled (λ k. get_or l.initial.dst (source (simulation_of (model_of l.s.model) l.s.graph) k) 0) l.nodes l.initial.dst l.dst l.n
