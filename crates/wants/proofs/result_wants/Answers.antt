use Prim.Native.Nat.{◌<◌}
use mathlib.Core.Path.{refl}
use native.Mathlib.Omega.{arith}
use borrow.Author.Tests.{not-true, not-false}
use Rattle.model.specs.Model.{model_of}
use Rattle.model.proofs.Limits.{limits}
use Rattle.building.proofs.FirstLaws.{search-start, search-next}
use Rattle.wants.specs.Wants.{result_in}
use Rattle.wants.proofs.Here.{field-read}
use Rattle.wants.proofs.Answers.{search-miss, search-hit, search-end, assigned-there, assigned-wants, assigned-skips}
use Rattle.wants.proofs.result_wants.Goals as goal

pub loop-v-init : goal.loop-v-init
loop-v-init c = (search-start _ _, c.requires.node_read.flagged, refl)

pub loop-v-preserved-then-not-is_new : goal.loop-v-preserved-then-not-is_new
loop-v-preserved-then-not-is_new c =
    let l : c.loop-v.v < (model_of c.args.m.now).variables = omega (arith, c.loop-v-test.true, c.variable_count-vars.ensures.0) in
    let h = assigned-skips c.requires.read_by c.loop-v.v l (field-read _ _ _ _ c.variable_count-vars.ensures.0 c.node_size-size.ensures.0 c.field-set.ensures.0) (field-read _ _ _ _ c.variable_count-vars.ensures.0 c.node_size-size.ensures.0 c.field-read.ensures.0) c.is_new.ensures (not-true _ c.if-not-is_new.true-raw) in
    (search-next c.loop-v.invariant.0 l h, c.loop-v.invariant.1, c.loop-v.invariant.2)

pub field-e-requires : goal.field-e-requires
field-e-requires c =
    let k = (limits c.requires.node_read.node.model.folder).records in
    (omega (arith, c.variable_count-vars.ensures.1), omega (arith, c.requires.record_bound.0), omega (arith, c.loop-v-test.true, c.variable_count-vars.ensures.1))

pub returns-in-Some-clause-result_value : goal.returns-in-Some-clause-result_value
unfolding result_in
returns-in-Some-clause-result_value c =
    let l : c.loop-v.v < (model_of c.args.m.now).variables = omega (arith, c.loop-v-test.true, c.variable_count-vars.ensures.0) in
    let i = assigned-there c.requires.node_read.node _ _ c.variable_count-vars.ensures.0 c.body-bs.ensures c.field-e.ensures.0 l c.requires.record_bound.0 in
    let h =
    assigned-wants c.requires.node_read.node _ _ c.variable_count-vars.ensures.0 c.body-bs.ensures c.field-e.ensures.0 l c.args.lead.node
    (field-read _ _ _ _ c.variable_count-vars.ensures.0 c.node_size-size.ensures.0 c.field-set.ensures.0) (field-read _ _ _ _ c.variable_count-vars.ensures.0 c.node_size-size.ensures.0 c.field-read.ensures.0)
    c.is_new.ensures (not-false _ c.if-not-is_new.false-raw) (c.entry_wants.ensures.number_value i) in
    search-hit c.loop-v.invariant.0 l h c.in-Some.is

pub loop-v-preserved : goal.loop-v-preserved
loop-v-preserved c =
    let l : c.loop-v.v < (model_of c.args.m.now).variables = omega (arith, c.loop-v-test.true, c.variable_count-vars.ensures.0) in
    let i = assigned-there c.requires.node_read.node _ _ c.variable_count-vars.ensures.0 c.body-bs.ensures c.field-e.ensures.0 l c.requires.record_bound.0 in
    let h =
    assigned-wants c.requires.node_read.node _ _ c.variable_count-vars.ensures.0 c.body-bs.ensures c.field-e.ensures.0 l c.args.lead.node
    (field-read _ _ _ _ c.variable_count-vars.ensures.0 c.node_size-size.ensures.0 c.field-set.ensures.0) (field-read _ _ _ _ c.variable_count-vars.ensures.0 c.node_size-size.ensures.0 c.field-read.ensures.0)
    c.is_new.ensures (not-false _ c.if-not-is_new.false-raw) (c.entry_wants.ensures.number_value i) in
    (search-miss c.loop-v.invariant.0 l h c.in_default.is, c.entry_wants.ensures.label_flagged, omega arith)

pub returns-clause-result_value : goal.returns-clause-result_value
unfolding result_in
returns-clause-result_value c = search-end c.loop-v.invariant.0 (omega (arith, c.loop-v-test.false, c.variable_count-vars.ensures.0))
