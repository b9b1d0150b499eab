use Rattle.sums.proofs.EdgeLaws.{Weighed}
use Rattle.sums.proofs.edge_sum.Given as goal

abbrev pub invariant-loop-b : goal.invariant-loop-b
invariant-loop-b l = Weighed l.weights l.row l.eb l.first l.at l.count l.b l.acc
