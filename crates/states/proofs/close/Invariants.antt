use Rattle.expressions.specs.Entries.{entries_of}
use Rattle.states.proofs.Flags.{ClosedDown}
use Rattle.states.proofs.close.Given as goal

abbrev pub invariant-loop-e : goal.invariant-loop-e
invariant-loop-e l = ClosedDown (entries_of l.x) l.initial.flags l.flags l.e
