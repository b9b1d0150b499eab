use Rattle.finish.proofs.EdgeLaws.{Walked}
use Rattle.finish.proofs.put_edges.Given as goal

abbrev pub invariant-loop-c : goal.invariant-loop-c
invariant-loop-c l = Walked l.cs l.row l.child l.at l.c l.births l.bytes l.count l.initial.nb l.nb
