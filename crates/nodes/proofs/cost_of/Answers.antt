use native.Mathlib.Omega.{arith}
use Rattle.nodes.proofs.Walk.{costs-start, costs-next}
use Rattle.nodes.proofs.cost_of.Goals as goal

pub overflow_add-births : goal.overflow_add-births
overflow_add-births c = omega (arith, c.loop-c.invariant.few, c.if_on-births.ensures.1, c.field-count.ensures.1, c.requires, c.loop-c-test.true)

pub overflow_add-bytes : goal.overflow_add-bytes
overflow_add-bytes c = omega (arith, c.loop-c.invariant.short, c.if_on-bytes.ensures.1, c.field-count.ensures.1, c.requires, c.loop-c-test.true)

pub loop-c-preserved : goal.loop-c-preserved
loop-c-preserved c =
    costs-next c.loop-c.invariant c.is_on-on.ensures c.field-count.ensures.0 c.field-count.ensures.1 c.if_on-births.ensures.0 c.if_on-births.ensures.1 c.if_on-bytes.ensures.0 c.if_on-bytes.ensures.1

pub loop-c-init : goal.loop-c-init
loop-c-init c = costs-start _ _
