use Rattle.nodes.proofs.Walk.{Costs}
use Rattle.nodes.proofs.cost_of.Given as goal

abbrev pub invariant-loop-c : goal.invariant-loop-c
invariant-loop-c l = Costs l.cs l.row l.c l.births l.bytes
