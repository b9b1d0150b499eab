use native.Mathlib.Omega.{arith}
use borrow.Author.Tests.{not-true, not-false}
use Rattle.covers.proofs.CoverLaws.{waits-next, waits-found}
use Rattle.covers.proofs.lowest_waiting.Goals as goal

pub waits-requires : goal.waits-requires
waits-requires c = (c.requires.vars_le_most_variables, omega (arith, c.loop-n.invariant.later, c.loop-n.invariant.within))

pub overflow_add-n : goal.overflow_add-n
overflow_add-n c = record { fits = omega (arith, c.loop-n.invariant.later, c.loop-n.invariant.within) }

pub loop-n-smaller : goal.loop-n-smaller
loop-n-smaller c = omega (arith, c.loop-n.invariant.later, c.loop-n.invariant.within)

pub loop-n-preserved : goal.loop-n-preserved
loop-n-preserved c = waits-next c.loop-n.invariant c.waits.ensures (not-true _ c.loop-n-test.true-raw)

pub returns : goal.returns
returns c = waits-found c.loop-n.invariant c.waits.ensures (not-false _ c.loop-n-test.false-raw)

pub loop-n-init : goal.loop-n-init
loop-n-init c = c.requires.some_waits
