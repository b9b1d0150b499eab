use native.Mathlib.Omega.{arith}
use Rattle.finish.proofs.DoneLaws.{done-start, records-end, begins-at, begins-within, node-fits, done_next, done-over}
use Rattle.finish.proofs.finish.Goals as goal

pub overflow_mul-first : goal.overflow_mul-first
overflow_mul-first c = omega (arith, records-end c.requires.held c.variable_count.ensures.0 c.node_size.ensures.0)

pub begin_of-requires : goal.begin_of-requires
begin_of-requires c = omega (arith, c.loop-n-test.true, c.requires.nodes_in_bounds_2)

pub overflow_add-first : goal.overflow_add-first
overflow_add-first c = omega (arith, begins-within c.args.m.now c.args.nb.now c.args.begins.now c.args.nodes c.requires.walked c.loop-n-test.true c.variable_count.ensures.0 c.node_size.ensures.0 c.begin_of.ensures c.requires.nodes_in_bounds)

pub finish_node-requires : goal.finish_node-requires
finish_node-requires c =
    let at = begins-at c.args.m.now c.args.nb.now c.args.begins.now c.args.nodes c.requires.walked c.loop-n-test.true c.variable_count.ensures.0 c.node_size.ensures.0 c.begin_of.ensures in
    node-fits c.requires.held c.loop-n.invariant c.loop-n-test.true at c.requires.nodes_in_bounds

pub loop-n-preserved : goal.loop-n-preserved
loop-n-preserved c =
    let at = begins-at c.args.m.now c.args.nb.now c.args.begins.now c.args.nodes c.requires.walked c.loop-n-test.true c.variable_count.ensures.0 c.node_size.ensures.0 c.begin_of.ensures in
    done_next c.requires.held c.loop-n.invariant c.loop-n-test.true at (λ j. (c.slice_known-1.given j).fits) c.finish_node.ensures

pub shape_of-nb : goal.shape_of-nb
shape_of-nb c = c.loop-n.invariant.long

pub returns : goal.returns
returns c = done-over c.loop-n.invariant (omega arith) c.requires.nodes_in_bounds

pub loop-n-init : goal.loop-n-init
loop-n-init c = done-start _ _ _
