use Prim.Native.Nat.{ℕ, ◌≤◌}
use mathlib.Core.Path.{◌≡◌}
use mathlib.Core.List.{List}
use lib.ListN.{length}
use Rattle.folder.specs.Contents.{body}
use Rattle.model.specs.Model.{model_of}
use Rattle.graph.proofs.EdgeLaws.{Passed}
use Rattle.graph.proofs.walk_edges.Given as goal

abbrev pub invariant-loop-e : goal.invariant-loop-e
invariant-loop-e l = record {
  passed : (m : List ℕ) → l.cs ≡ body m 3 → Passed (model_of m) l.nodes l.es l.«from» l.e l.k;
  within : l.k ≤ length l.es;
}
