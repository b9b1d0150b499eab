use lib.Dec.{eqb}
use Rattle.model.specs.Model.{model_of}
use Rattle.graph.specs.Simulation.{node_field}
use Rattle.graph.proofs.CountLaws.{Counted}
use Rattle.graph.proofs.kind_count.Given as goal

abbrev pub invariant-loop-i : goal.invariant-loop-i
invariant-loop-i l = Counted (λ j. eqb (node_field (model_of l.m) l.g j 0) l.k) l.n l.i l.total
