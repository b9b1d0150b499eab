use Rattle.std.proofs.Common.{◌≡◌, ◌≤◌, ◌*◌}
use Rattle.folder.specs.Fields.{field_limit}
use Rattle.folder.specs.Contents.{field}
use Rattle.mdp.specs.Sums.{sum}
use Rattle.model.proofs.first_record.Given as goal

abbrev pub invariant-loop-c : goal.invariant-loop-c
invariant-loop-c l = (l.sum ≡ sum l.c (λ i _. field 4 l.k i 1)) × (l.sum ≤ field_limit * l.c)
