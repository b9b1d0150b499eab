use Rattle.std.proofs.Common.{length}
use Rattle.choices.proofs.Moving.{Moving}
use Rattle.choices.proofs.advance.Given as goal

abbrev pub invariant-loop-v : goal.invariant-loop-v
invariant-loop-v l = Moving l.y l.m l.t (length l.initial.row) l.initial.row l.row l.v
