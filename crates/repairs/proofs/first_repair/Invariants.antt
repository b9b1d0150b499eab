use Rattle.repairs.proofs.Searching.{Visited}
use Rattle.repairs.proofs.first_repair.Given as goal

abbrev pub invariant-loop-n : goal.invariant-loop-n
invariant-loop-n l = Visited l.m l.initial.nb l.initial.marks l.w.nodes l.w.low l.w.high l.n l.nb l.marks
