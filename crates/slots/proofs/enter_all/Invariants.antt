use Prim.Native.Nat.{◌-◌}
use lib.ListN.{length}
use Rattle.slots.proofs.RowLaws.{EnteredTo}
use Rattle.slots.proofs.enter_all.Given as goal

abbrev pub invariant-loop-i : goal.invariant-loop-i
invariant-loop-i l = EnteredTo l.vars l.nb (length l.initial.row) l.n l.row l.i
