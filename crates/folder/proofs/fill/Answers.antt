use Rattle.std.proofs.Common.{arith}
use Rattle.folder.proofs.FillLaws.{fill_none, fill_more}
use Rattle.folder.proofs.fill.Goals as goal

pub loop-i-init : goal.loop-i-init
loop-i-init g c = λ f h. fill_none f _

pub loop-i-preserved : goal.loop-i-preserved
loop-i-preserved g c = λ f h. fill_more f _ (c.loop-i.invariant f h) (h c.loop-i.i c.value.result c.loop-i-test.true c.value.ensures) (omega (arith, c.requires.n_in_bounds))
