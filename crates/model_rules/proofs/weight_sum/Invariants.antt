use Rattle.std.proofs.Common.{◌≡◌, ◌+◌, ◌*◌, ◌≤◌}
use Rattle.folder.specs.Fields.{field_limit}
use Rattle.folder.specs.Contents.{field}
use Rattle.mdp.specs.Sums.{sum}
use Rattle.model_rules.proofs.weight_sum.Given as goal

abbrev pub invariant-loop-i : goal.invariant-loop-i
invariant-loop-i l = (l.sum ≡ sum l.i (λ j _. field l.size l.b (l.first + j) 0)) × (l.sum ≤ field_limit * l.i)
