use Rattle.std.proofs.Common.{rules}
use Rattle.expand.specs.Tests.{branch_at}
use Rattle.expand.proofs.first_bad_branch.Goals as goal

pub returns : goal.returns
unfolding branch_at
returns c = c.first_bad.ensures _ (λ b t l h. search rules)
