use Rattle.std.proofs.Common.{◌≡◌, arith}
use Rattle.mdp.proofs.SumLaws.{sum-next}
use Rattle.model_rules.proofs.weight_sum.Goals as goal

pub loop-i-preserved : goal.loop-i-preserved
loop-i-preserved c = (sum-next c.loop-i.i _ c.loop-i.invariant.0 c.field-sum.ensures.0, omega arith)

pub returns : goal.returns
returns c = let e : c.loop-i.i ≡ c.args.n = omega arith in rw (← e) c.loop-i.invariant.0
