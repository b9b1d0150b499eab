use lib.ListN.{get_or}
use Rattle.folder.proofs.FillLaws.{Filled}
use Rattle.states.specs.Needed.{either_up}
use Rattle.states.proofs.raise_all.Given as goal

abbrev pub invariant-loop-k : goal.invariant-loop-k
invariant-loop-k l = Filled (λ i. either_up (get_or l.other i 0) (get_or l.initial.flags i 0)) l.n l.initial.flags l.flags l.k
