use Rattle.whole.proofs.Order.{equal-bits}
use Rattle.whole.proofs.equal.Goals as goal

pub returns : goal.returns
returns c = equal-bits c.args.a c.args.b c.ranges.a c.ranges.b
