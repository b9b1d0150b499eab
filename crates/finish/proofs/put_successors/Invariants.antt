use Prim.Native.Nat.{◌+◌}
use Rattle.folder.specs.Tab.{tab}
use Rattle.finish.specs.Laid.{Laid}
use Rattle.finish.proofs.put_successors.Given as goal

abbrev pub invariant-loop-b : goal.invariant-loop-b
invariant-loop-b l = Laid l.at (tab l.b (λ i. l.x + i)) l.initial.nb l.nb
