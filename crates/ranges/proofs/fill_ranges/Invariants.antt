use Rattle.ranges.proofs.FillLaws.{Filling}
use Rattle.ranges.proofs.fill_ranges.Given as goal

abbrev pub invariant-loop-e : goal.invariant-loop-e
invariant-loop-e l = Filling l.x l.y l.initial.row l.n l.row l.e
