use native.Mathlib.Omega.{arith}
use Rattle.nodes.proofs.NodeLaws.{node-start, node-next}
use Rattle.nodes.proofs.put_node.Goals as goal

pub put_field-requires : goal.put_field-requires
put_field-requires c = record { vars_le_most_variables = (c.requires.vars_nonzero.1, c.requires.vars_nonzero.4, omega (arith, c.requires.vars_nonzero.0, c.loop-f-test.true), c.new_field.ensures.1); whole = omega (arith, c.requires.whole, c.loop-f.invariant.stays.long) }

pub loop-f-preserved : goal.loop-f-preserved
loop-f-preserved c = node-next _ _ _ _ _ _ c.loop-f.invariant c.requires.vars_nonzero.0 c.loop-f-test.true c.requires.whole c.new_field.ensures.0 c.new_field.ensures.1 c.put_field.ensures

pub loop-f-init : goal.loop-f-init
loop-f-init c = node-start _ _ _ _ _ _ _

pub shape_of-nb : goal.shape_of-nb
shape_of-nb c = c.loop-f.invariant.stays.long
