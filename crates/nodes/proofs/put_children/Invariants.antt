use Rattle.nodes.specs.Born.{Brood}
use Rattle.nodes.proofs.Walk.{Stepped}
use Rattle.nodes.proofs.put_children.Given as goal

abbrev pub invariant-loop-c : goal.invariant-loop-c
invariant-loop-c l = Brood l.vars l.cs l.bs l.row l.parent l.k l.c l.initial.nb l.nb × Stepped l.cs l.row l.k l.c l.record l.node
