use Rattle.finish.proofs.FinalLaws.{cover-is, cover-none}
use Rattle.finish.proofs.cover_of.Goals as goal

pub returns-then-kind-eq-COVERED : goal.returns-then-kind-eq-COVERED
returns-then-kind-eq-COVERED c = cover-is _ _ c.if-kind-eq-COVERED.true

pub returns-else-kind-eq-COVERED : goal.returns-else-kind-eq-COVERED
returns-else-kind-eq-COVERED c = cover-none _ _ c.if-kind-eq-COVERED.false
