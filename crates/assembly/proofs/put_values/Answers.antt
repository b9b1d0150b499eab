use mathlib.Core.Path.{refl}
use native.Mathlib.Omega.{arith}
use borrow.Author.Rules.{rules}
use Rattle.assembly.proofs.Putting.{valued-start, valued-next, valued-over}
use Rattle.assembly.proofs.put_values.Goals as goal

pub loop-n-init : goal.loop-n-init
loop-n-init c = valued-start

pub loop-n-preserved : goal.loop-n-preserved
loop-n-preserved c = valued-next c.loop-n.invariant c.loop-n-test.true c.node_size-size.ensures.0 refl (search rules) c.put_word.ensures

pub returns : goal.returns
returns c = valued-over c.loop-n.invariant (omega arith)
