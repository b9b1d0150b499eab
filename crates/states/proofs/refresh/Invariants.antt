use lib.ListN.{length}
use Rattle.expressions.specs.Entries.{entries_of}
use Rattle.states.proofs.Lists.{ListedTo}
use Rattle.states.proofs.refresh.Given as goal

abbrev pub invariant-loop-e : goal.invariant-loop-e
invariant-loop-e l = ListedTo (entries_of l.x) l.s l.row l.list (length l.initial.row) l.e-index
