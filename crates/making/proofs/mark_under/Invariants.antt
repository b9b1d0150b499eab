use Prim.Native.Nat.{◌≤◌}
use Rattle.put.specs.Put.{Changed}
use Rattle.making.specs.Marking.{mark_under}
use Rattle.making.proofs.mark_under.Given as goal

abbrev pub invariant-loop-i : goal.invariant-loop-i
invariant-loop-i l = (l.i ≤ l.end) × Changed 0 l.i (mark_under l.vars l.nb l.n) l.initial.marks l.marks
