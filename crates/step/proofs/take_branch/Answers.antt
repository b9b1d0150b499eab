use Rattle.std.proofs.Common.{arith}
use Rattle.folder.proofs.TableLaws.{test-told}
use Rattle.model.proofs.Limits.{limits}
use Rattle.step.proofs.StepLaws.{grounded, guard-right, there-in, taken-in, record-small, stepping, next-is}
use Rattle.step.proofs.take_branch.Goals as goal

pub truth_in-enabled-requires-clause-grounded : goal.truth_in-enabled-requires-clause-grounded
truth_in-enabled-requires-clause-grounded c = grounded c.requires.valid c.requires.in_range c.body-x.ensures

pub truth_in-enabled-requires-clause-truth : goal.truth_in-enabled-requires-clause-truth
truth_in-enabled-requires-clause-truth c =
    let there = there-in c.args.m.now c.body-k.ensures c.args.command c.count_of.ensures (test-told _ _ _ c.check.ensures c.in_ok-check.was) in
    guard-right _ c.body-x.ensures c.body-k.ensures c.args.command c.field.ensures.0 c.requires.valid there

pub field-requires : goal.field-requires
field-requires c =
    let there = there-in c.args.m.now c.body-k.ensures c.args.command c.count_of.ensures (test-told _ _ _ c.check.ensures c.in_ok-check.was) in
    omega (arith, there, limits c.requires.valid.folder)

pub field-requires-2 : goal.field-requires-2
field-requires-2 c =
    let there = there-in c.args.m.now c.body-k.ensures c.args.command c.count_of.ensures (test-told _ _ _ c.check.ensures c.in_ok-check.was) in
    omega (arith, there, limits c.requires.valid.folder)

pub first_record-requires : goal.first_record-requires
first_record-requires c =
    let there = there-in c.args.m.now c.body-k.ensures c.args.command c.count_of.ensures (test-told _ _ _ c.check.ensures c.in_ok-check.was) in
    omega (arith, there, limits c.requires.valid.folder)

pub overflow_add-r : goal.overflow_add-r
overflow_add-r c =
    let taken = taken-in c.args.m.now c.body-k.ensures c.args.command c.args.branch c.count_of.ensures (test-told _ _ _ c.check.ensures c.in_ok-check.was)
    c.field-2.ensures.0 (test-told _ _ _ c.check-3.ensures c.in_ok-check-3.was) c.first_record.ensures in
    omega (arith, record-small c.requires.valid c.requires.in_range taken)

pub put_next-requires-clause-stepping : goal.put_next-requires-clause-stepping
put_next-requires-clause-stepping c =
    let taken = taken-in c.args.m.now c.body-k.ensures c.args.command c.args.branch c.count_of.ensures (test-told _ _ _ c.check.ensures c.in_ok-check.was)
    c.field-2.ensures.0 (test-told _ _ _ c.check-3.ensures c.in_ok-check-3.was) c.first_record.ensures in
    stepping c.requires.valid c.requires.in_range taken c.body-x.ensures c.body-b.ensures

pub returns-clause-res_after : goal.returns-clause-res_after
returns-clause-res_after c =
    let taken = taken-in c.args.m.now c.body-k.ensures c.args.command c.args.branch c.count_of.ensures (test-told _ _ _ c.check.ensures c.in_ok-check.was)
    c.field-2.ensures.0 (test-told _ _ _ c.check-3.ensures c.in_ok-check-3.was) c.first_record.ensures in
    next-is c.requires.valid c.requires.in_range taken c.body-x.ensures c.body-b.ensures c.args.res.now c.put_next.ensures
