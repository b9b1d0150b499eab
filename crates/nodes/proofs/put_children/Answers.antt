use native.Mathlib.Omega.{arith}
use Rattle.nodes.proofs.Walk.{step_start, step-next, records-within, children-within, bytes-within}
use Rattle.nodes.proofs.BroodLaws.{brood-start, brood-next, fits-as}
use Rattle.nodes.proofs.put_children.Goals as goal

pub put_family-requires : goal.put_family-requires
put_family-requires c = record {
  vars_nonzero = (
    c.requires.vars_nonzero.0,
    c.requires.vars_nonzero.1,
    omega (arith, records-within c.loop-c.invariant.1 c.field-branches.ensures.0 c.is_on.ensures c.if_on-count.ensures.0 _ c.loop-c-test.true _ c.requires.vars_nonzero.3, c.if_on-count.ensures.1),
    omega (arith, children-within c.loop-c.invariant.1 c.field-branches.ensures.0 c.is_on.ensures c.if_on-count.ensures.0 _ c.loop-c-test.true, c.requires.commands_bound),
    c.requires.vars_nonzero.4,
  );
  count_in_bounds = bytes-within c.loop-c.invariant.1 c.field-branches.ensures.0 c.is_on.ensures c.if_on-count.ensures.0 _ c.loop-c-test.true _ _ (omega (arith, c.requires.commands_in_bounds, c.loop-c.invariant.0.stays.long));
  all_fit = fits-as _ _ _ c.loop-c.invariant.1.records (omega (arith, c.field-branches.ensures.0, c.if_on-count.ensures.1)) (c.requires.brood_fits.all _ c.loop-c-test.true);
}

pub overflow_add-record : goal.overflow_add-record
overflow_add-record c = omega (arith, records-within c.loop-c.invariant.1 c.field-branches.ensures.0 c.is_on.ensures c.if_on-count.ensures.0 _ c.loop-c-test.true _ c.requires.vars_nonzero.3)

pub overflow_add-node : goal.overflow_add-node
overflow_add-node c = omega (arith, children-within c.loop-c.invariant.1 c.field-branches.ensures.0 c.is_on.ensures c.if_on-count.ensures.0 _ c.loop-c-test.true, c.requires.commands_bound)

pub loop-c-preserved : goal.loop-c-preserved
loop-c-preserved c =
    (brood-next _ _ _ _ _ _ c.requires.vars_nonzero.0 c.loop-c.invariant.0 c.loop-c.invariant.1.records c.loop-c.invariant.1.children c.field-branches.ensures.0 c.is_on.ensures c.if_on-count.ensures.0 c.put_family.ensures, step-next c.loop-c.invariant.1 c.field-branches.ensures.0 c.is_on.ensures c.if_on-count.ensures.0)

pub loop-c-init : goal.loop-c-init
loop-c-init c = (brood-start _ _ _ _ _ _ _, step_start _ _ _)

pub shape_of-nb : goal.shape_of-nb
shape_of-nb c = c.loop-c.invariant.0.stays.long
