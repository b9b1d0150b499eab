use native.Mathlib.Omega.{arith}
use Rattle.wants.proofs.Answers.{read-start, read_next}
use Rattle.wants.proofs.next_unread.Goals as goal

pub loop-b-init : goal.loop-b-init
loop-b-init c = (omega arith, c.requires.1, read-start _ _ _ _)

pub overflow_add-x : goal.overflow_add-x
overflow_add-x c = omega (arith, c.requires.2, c.loop-b-test.true)

pub field-requires : goal.field-requires
field-requires c = (omega (arith, c.node_size-size.ensures.1), omega (arith, c.requires.2, c.loop-b-test.true), omega arith)

pub field-requires-in-loop-b : goal.field-requires-in-loop-b
field-requires-in-loop-b c = (omega (arith, c.node_size-size.ensures.1), omega (arith, c.requires.2, c.loop-b-test.true), omega arith)

pub returns-then-field : goal.returns-then-field
returns-then-field c = record { lower_bound = (c.loop-b.invariant.0, c.loop-b.invariant.1); by_index = c.loop-b.invariant.2 }

pub loop-b-preserved : goal.loop-b-preserved
loop-b-preserved c =
    (omega (arith, c.loop-b.invariant.0), omega (arith, c.loop-b-test.true), read_next _ _ _ _ _ c.loop-b.invariant.2 c.node_size-size.ensures.0 c.field.ensures.0 c.field-in-loop-b.ensures.0 c.if-field.false)

pub returns : goal.returns
returns c = record { lower_bound = (omega (arith, c.loop-b.invariant.0, c.loop-b-test.false, c.loop-b.invariant.1), omega arith); by_index = λ k a l. c.loop-b.invariant.2 k a (omega (arith, l, c.loop-b-test.false, c.loop-b.invariant.1)) }
