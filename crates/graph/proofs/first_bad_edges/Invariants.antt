use Prim.Native.Nat.{◌≤◌}
use lib.ListN.{length}
use Rattle.model.specs.Model.{model_of}
use Rattle.graph.proofs.EdgeLaws.{Reached}
use Rattle.graph.proofs.first_bad_edges.Given as goal

abbrev pub invariant-loop-i : goal.invariant-loop-i
invariant-loop-i l = record { reached : Reached (model_of l.m) l.g l.i l.at; within : l.at ≤ length l.es }
