use Rattle.finish.proofs.FinalLaws.{Going}
use Rattle.finish.proofs.put_record.Given as goal

abbrev pub invariant-loop-f : goal.invariant-loop-f
invariant-loop-f l = Going l.vars l.n l.edges l.f l.initial.nb l.nb
