use Rattle.work.specs.Root.{Begun}
use Rattle.work.proofs.put_root.Given as goal

abbrev pub invariant-loop-f : goal.invariant-loop-f
invariant-loop-f l = Begun l.vars l.y l.f l.initial.nb l.nb
