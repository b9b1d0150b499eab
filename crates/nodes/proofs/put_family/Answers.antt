use native.Mathlib.Omega.{arith}
use Rattle.nodes.proofs.NodeLaws.{family-none, family-next, family-room}
use Rattle.nodes.proofs.put_family.Goals as goal

pub put_node-requires : goal.put_node-requires
put_node-requires c = record { vars_nonzero = (c.requires.vars_nonzero.0, c.requires.vars_nonzero.1, omega (arith, c.requires.vars_nonzero.2), c.requires.vars_nonzero.4, omega (arith, c.requires.vars_nonzero.3)); whole = family-room _ _ _ _ _ _ c.loop-b.invariant c.loop-b-test.true c.requires.count_in_bounds; results_fit = c.requires.all_fit.each _ c.loop-b-test.true }

pub loop-b-preserved : goal.loop-b-preserved
loop-b-preserved c = family-next _ _ _ _ _ _ c.requires.vars_nonzero.0 c.loop-b.invariant c.put_node.ensures

pub loop-b-init : goal.loop-b-init
loop-b-init c = family-none _ _ _ _ _ _ _

pub shape_of-nb : goal.shape_of-nb
shape_of-nb c = c.loop-b.invariant.stays.long
