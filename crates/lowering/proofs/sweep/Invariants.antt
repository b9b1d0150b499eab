use Rattle.lowering.proofs.SweepLaws.{Sweeping}
use Rattle.lowering.proofs.sweep.Given as goal

abbrev pub invariant-loop-n : goal.invariant-loop-n
invariant-loop-n l = Sweeping l.s.model l.s.graph l.initial.row l.row l.n l.same
