use Rattle.nodes.specs.Born.{Family}
use Rattle.nodes.proofs.put_family.Given as goal

abbrev pub invariant-loop-b : goal.invariant-loop-b
invariant-loop-b l = Family l.vars l.bs l.row l.births.record l.births.parent l.births.node l.b l.initial.nb l.nb
