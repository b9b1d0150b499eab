use Rattle.finish.proofs.FinalLaws.{kind-low, kind-high}
use Rattle.finish.proofs.kind_of.Goals as goal

pub returns-then-k-le-TARGET : goal.returns-then-k-le-TARGET
returns-then-k-le-TARGET c = kind-low _ c.if-k-le-TARGET.true

pub returns-else-k-le-TARGET : goal.returns-else-k-le-TARGET
returns-else-k-le-TARGET c = kind-high _ c.if-k-le-TARGET.false
