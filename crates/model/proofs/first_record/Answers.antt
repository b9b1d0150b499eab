use Rattle.std.proofs.Common.{◌≡◌, arith}
use Rattle.mdp.proofs.SumLaws.{sum-next}
use Rattle.model.proofs.first_record.Goals as goal

pub loop-c-preserved : goal.loop-c-preserved
loop-c-preserved c = (sum-next c.loop-c.c _ c.loop-c.invariant.0 c.field-sum.ensures.0, omega arith)

pub returns : goal.returns
returns c = let e : c.loop-c.c ≡ c.args.n = omega arith in rw (← e) c.loop-c.invariant.0
