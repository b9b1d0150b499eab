use Prim.Native.Nat.{◌-◌, ◌≤◌}
use Rattle.repairs.specs.Marked.{AllMarked}
use Rattle.repairs.proofs.mark_read.Given as goal

abbrev pub invariant-loop-x : goal.invariant-loop-x
invariant-loop-x l = (l.from ≤ l.x) × (l.x ≤ l.end) × AllMarked l.vars l.from l.x l.initial.nb l.nb

abbrev pub decreases-loop-x : goal.decreases-loop-x
decreases-loop-x l = l.end - l.x
