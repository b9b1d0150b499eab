use Rattle.folder.proofs.ListLaws.{Listed}
use Rattle.states.specs.Needed.{is_up}
use Rattle.states.proofs.list_flagged.Given as goal

abbrev pub invariant-loop-e : goal.invariant-loop-e
invariant-loop-e l = Listed (is_up l.flags) l.n l.initial.list l.list l.e l.count
