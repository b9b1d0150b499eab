use Rattle.std.proofs.Common.{refl, arith, zero-le}
use Rattle.put.proofs.ChangeLaws.{change-start, change-next, change-over}
use Rattle.begins.proofs.move_later.Goals as goal

pub loop-begin-init : goal.loop-begin-init
loop-begin-init c = change-start _

pub overflow_add-begin : goal.overflow_add-begin
overflow_add-begin c = record { fits = omega (arith, c.loop-begin.invariant.stays.past c.loop-begin.begin-index (omega arith), c.requires c.loop-begin.begin-index c.loop-begin-test.true) }

pub loop-begin-preserved : goal.loop-begin-preserved
loop-begin-preserved c = change-next c.loop-begin.invariant zero-le (omega arith) refl

pub returns : goal.returns
returns c = change-over c.loop-begin.invariant (omega arith) (omega arith)
