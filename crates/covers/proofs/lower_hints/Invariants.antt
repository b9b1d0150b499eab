use Rattle.covers.specs.Covers.{Lowered}
use Rattle.covers.proofs.lower_hints.Given as goal

abbrev pub invariant-loop-i : goal.invariant-loop-i
invariant-loop-i l = Lowered l.vars l.n l.i l.initial.nb l.nb
