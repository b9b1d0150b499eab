use Prim.Native.Nat.{◌-◌}
use lib.ListN.{length}
use Rattle.slots.proofs.RowLaws.{Probed}
use Rattle.slots.proofs.probe.Given as goal

abbrev pub invariant-loop-d : goal.invariant-loop-d
invariant-loop-d l = Probed (length l.x) l.nb l.row l.x l.p l.d
