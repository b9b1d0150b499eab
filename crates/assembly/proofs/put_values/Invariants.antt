use Rattle.assembly.proofs.Putting.{Valued}
use Rattle.assembly.proofs.put_values.Given as goal

abbrev pub invariant-loop-n : goal.invariant-loop-n
invariant-loop-n l = Valued l.vars l.nodes l.row l.initial.nb l.nb l.n
