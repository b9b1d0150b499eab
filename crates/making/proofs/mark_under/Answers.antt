use native.Mathlib.Omega.{arith}
use Rattle.put.proofs.ChangeLaws.{change-start, change-next, change-over}
use Rattle.making.proofs.Marks.{mark-as}
use Rattle.making.proofs.mark_under.Goals as goal

pub bounds-marks-i : goal.bounds-marks-i
bounds-marks-i c = omega (arith, c.loop-i.invariant.1.stays.long)

pub bounds-marks-i-in-loop-i : goal.bounds-marks-i-in-loop-i
bounds-marks-i-in-loop-i c = omega (arith, c.loop-i.invariant.1.stays.long)

pub loop-i-preserved : goal.loop-i-preserved
loop-i-preserved c =
    (omega (arith, c.loop-i-test.true), change-next c.loop-i.invariant.1 (omega arith) (omega (arith, c.loop-i-test.true, c.loop-i.invariant.1.stays.long)) (mark-as _ _ _ _ _ c.is_under.ensures c.mark_if.ensures))

pub shape_of-marks : goal.shape_of-marks
shape_of-marks c = c.loop-i.invariant.1.stays.long

pub returns : goal.returns
returns c = change-over c.loop-i.invariant.1 c.loop-i.invariant.0 (omega (arith, c.loop-i-test.false))

pub loop-i-init : goal.loop-i-init
loop-i-init c = (omega arith, change-start _)
