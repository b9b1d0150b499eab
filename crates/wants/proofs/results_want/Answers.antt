use Prim.Native.Nat.{◌<◌}
use mathlib.Core.Path.{refl}
use native.Mathlib.Omega.{arith}
use Rattle.model.specs.Model.{model_of}
use Rattle.model.proofs.Limits.{limits}
use Rattle.building.proofs.FirstLaws.{search-start}
use Rattle.wants.specs.Wants.{results_in}
use Rattle.wants.proofs.Here.{field-read}
use Rattle.wants.proofs.Answers.{search-miss, search-hit, search-end, commands-are}
use Rattle.wants.proofs.Walk.{step_start, few-records, step-next, records-there, children-there, children-read, walked}
use Rattle.wants.proofs.results_want.Goals as goal

pub loop-c-init : goal.loop-c-init
loop-c-init c = (search-start _ _, step_start _ _ _ (field-read _ _ _ _ c.variable_count.ensures.0 c.node_size-size.ensures.0 c.field-node.ensures.0), c.requires.node_read.flagged, refl)

pub field-branches-requires : goal.field-branches-requires
field-branches-requires c = omega (arith, c.loop-c-test.true, commands-are _ c.body-cs.ensures c.count_of-c-end.ensures, (limits c.requires.node_read.node.model.folder).commands)

pub is_on-requires : goal.is_on-requires
is_on-requires c = omega (arith, c.loop-c-test.true, commands-are _ c.body-cs.ensures c.count_of-c-end.ensures, (limits c.requires.node_read.node.model.folder).commands)

pub branches_want-requires-clause-count_bound : goal.branches_want-requires-clause-count_bound
branches_want-requires-clause-count_bound c =
    let l : c.loop-c.c < (model_of c.args.m.now).commands = omega (arith, c.loop-c-test.true, commands-are _ c.body-cs.ensures c.count_of-c-end.ensures) in
    (records-there c.requires.node_read c.loop-c.invariant.1 l c.body-cs.ensures c.field-branches.ensures.0 c.is_on.ensures c.if_on-count.ensures.0 c.if_on-count.ensures.1, children-there c.requires.node_read c.loop-c.invariant.1 l c.body-cs.ensures c.field-branches.ensures.0 c.is_on.ensures c.if_on-count.ensures.0 c.if_on-count.ensures.1 c.requires.n_bound)

pub branches_want-requires-clause-by_index : goal.branches_want-requires-clause-by_index
branches_want-requires-clause-by_index c =
    let l : c.loop-c.c < (model_of c.args.m.now).commands = omega (arith, c.loop-c-test.true, commands-are _ c.body-cs.ensures c.count_of-c-end.ensures) in
    children-read c.requires.node_read c.loop-c.invariant.1 l c.body-cs.ensures c.field-branches.ensures.0 c.is_on.ensures c.if_on-count.ensures.0 c.if_on-count.ensures.1 c.requires.all_read

pub returns-in-Some-clause-wanted_value : goal.returns-in-Some-clause-wanted_value
unfolding results_in
returns-in-Some-clause-wanted_value c =
    let l : c.loop-c.c < (model_of c.args.m.now).commands = omega (arith, c.loop-c-test.true, commands-are _ c.body-cs.ensures c.count_of-c-end.ensures) in
    search-hit c.loop-c.invariant.0 l (walked c.requires.node_read c.loop-c.invariant.1 l c.body-cs.ensures c.field-branches.ensures.0 c.is_on.ensures c.if_on-count.ensures.0 c.if_on-count.ensures.1 c.branches_want.ensures.result_value) c.in-Some.is

pub overflow_add-record : goal.overflow_add-record
overflow_add-record c =
    let l : c.loop-c.c < (model_of c.args.m.now).commands = omega (arith, c.loop-c-test.true, commands-are _ c.body-cs.ensures c.count_of-c-end.ensures) in
    omega (arith, few-records c.requires.node_read c.loop-c.invariant.1 l c.body-cs.ensures c.field-branches.ensures.0)

pub overflow_add-node : goal.overflow_add-node
overflow_add-node c =
    let l : c.loop-c.c < (model_of c.args.m.now).commands = omega (arith, c.loop-c-test.true, commands-are _ c.body-cs.ensures c.count_of-c-end.ensures) in
    omega (arith, children-there c.requires.node_read c.loop-c.invariant.1 l c.body-cs.ensures c.field-branches.ensures.0 c.is_on.ensures c.if_on-count.ensures.0 c.if_on-count.ensures.1 c.requires.n_bound)

pub loop-c-preserved : goal.loop-c-preserved
loop-c-preserved c =
    let l : c.loop-c.c < (model_of c.args.m.now).commands = omega (arith, c.loop-c-test.true, commands-are _ c.body-cs.ensures c.count_of-c-end.ensures) in (
      search-miss c.loop-c.invariant.0 l (walked c.requires.node_read c.loop-c.invariant.1 l c.body-cs.ensures c.field-branches.ensures.0 c.is_on.ensures c.if_on-count.ensures.0 c.if_on-count.ensures.1 c.branches_want.ensures.result_value) c.in_default.is,
      step-next c.requires.node_read c.loop-c.invariant.1 l c.body-cs.ensures c.field-branches.ensures.0 c.is_on.ensures c.if_on-count.ensures.0 c.if_on-count.ensures.1,
      c.branches_want.ensures.label_flagged,
      omega arith,
    )

pub returns-clause-wanted_value : goal.returns-clause-wanted_value
unfolding results_in
returns-clause-wanted_value c = search-end c.loop-c.invariant.0 (omega (arith, c.loop-c-test.false, commands-are _ c.body-cs.ensures c.count_of-c-end.ensures))
