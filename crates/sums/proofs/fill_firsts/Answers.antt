use native.Mathlib.Nat.{le_of_lt}
use native.Mathlib.Omega.{arith}
use Rattle.mdp.proofs.SumLoop.{sum-start, sum-next}
use Rattle.folder.proofs.FillLaws.{fill_start, fill-next, fill-over}
use Rattle.sums.proofs.fill_firsts.Goals as goal

pub loop-c-init : goal.loop-c-init
loop-c-init c = (fill_start _ _ _, sum-start _ _ _)

pub loop-c-preserved : goal.loop-c-preserved
loop-c-preserved c = (
  fill-next c.loop-c.invariant.0 c.loop-c-test.true (omega (arith, c.count_of-commands.ensures)) c.loop-c.invariant.1.total,
  sum-next c.loop-c.invariant.1 c.loop-c-test.true c.field-next.ensures.0 (le_of_lt c.field-next.ensures.1),
)

pub returns : goal.returns
returns c = fill-over c.loop-c.invariant.0 (omega arith) c.count_of-commands.ensures
