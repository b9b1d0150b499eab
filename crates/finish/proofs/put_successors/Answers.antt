use mathlib.Core.Path.{refl}
use native.Mathlib.Omega.{arith}
use Rattle.finish.proofs.LaidLaws.{laid-start, laid_more}
use Rattle.finish.proofs.put_successors.Goals as goal

pub loop-b-init : goal.loop-b-init
loop-b-init c = laid-start _ _ _

pub overflow_add-at : goal.overflow_add-at
overflow_add-at c = omega (arith, c.requires.0, c.loop-b-test.true)

pub put_short-requires : goal.put_short-requires
put_short-requires c = (omega (arith, c.requires.0, c.loop-b-test.true, c.loop-b.invariant.stays.long), omega (arith, c.requires.1, c.loop-b-test.true))

pub loop-b-preserved : goal.loop-b-preserved
loop-b-preserved c = laid_more _ c.loop-b.invariant (omega (arith, c.requires.0, c.loop-b-test.true, c.loop-b.invariant.stays.long)) refl (omega (arith, c.requires.1, c.loop-b-test.true)) c.put_short.ensures

pub shape_of-nb : goal.shape_of-nb
shape_of-nb c = c.loop-b.invariant.stays.long
