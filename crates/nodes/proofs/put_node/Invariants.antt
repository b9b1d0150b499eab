use Rattle.nodes.specs.Born.{Node}
use Rattle.nodes.proofs.put_node.Given as goal

abbrev pub invariant-loop-f : goal.invariant-loop-f
invariant-loop-f l = Node l.vars l.bs l.row l.r l.parent l.k l.f l.initial.nb l.nb
