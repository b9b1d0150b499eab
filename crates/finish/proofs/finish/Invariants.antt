use Rattle.finish.proofs.DoneLaws.{Done}
use Rattle.finish.proofs.finish.Given as goal

abbrev pub invariant-loop-n : goal.invariant-loop-n
invariant-loop-n l = Done l.m l.initial.nb l.nodes l.n l.nb
