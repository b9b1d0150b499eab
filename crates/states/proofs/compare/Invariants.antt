use Rattle.states.proofs.Comparing.{ComparedTo}
use Rattle.states.proofs.compare.Given as goal

abbrev pub invariant-loop-e : goal.invariant-loop-e
invariant-loop-e l = ComparedTo l.list l.values l.state l.initial.flags l.flags l.e-index
