use Rattle.expressions.specs.Entries.{entries_of}
use Rattle.entries.proofs.Row.{Deep}
use Rattle.entries.proofs.first_bad_entry.Given as goal

abbrev pub invariant-loop-i : goal.invariant-loop-i
invariant-loop-i l = Deep (entries_of l.x) l.variables l.n l.i l.depths
