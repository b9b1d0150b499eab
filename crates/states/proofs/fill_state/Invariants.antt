use lib.ListN.{length}
use Rattle.expressions.specs.Entries.{entries_of}
use Rattle.states.proofs.Entries.{StatedTo}
use Rattle.states.proofs.fill_state.Given as goal

abbrev pub invariant-loop-e : goal.invariant-loop-e
invariant-loop-e l = StatedTo (entries_of l.x) l.s l.known l.row (length l.initial.row) l.e
