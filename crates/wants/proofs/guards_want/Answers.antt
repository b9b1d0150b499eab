use Prim.Native.Nat.{◌<◌}
use mathlib.Core.Path.{refl}
use native.Mathlib.Omega.{arith}
use Rattle.model.specs.Model.{model_of}
use Rattle.model.proofs.Limits.{limits}
use Rattle.building.proofs.FirstLaws.{search-start}
use Rattle.wants.specs.Wants.{guards_in}
use Rattle.wants.proofs.Answers.{search-miss, search-hit, search-end, commands-are, guard-there, guard-wants}
use Rattle.wants.proofs.guards_want.Goals as goal

pub loop-c-init : goal.loop-c-init
loop-c-init c = (search-start _ _, c.requires.flagged, refl)

pub field-e-requires : goal.field-e-requires
field-e-requires c =
    omega (arith, c.loop-c-test.true, commands-are _ c.body-cs.ensures c.count_of-c-end.ensures, (limits c.requires.node.model.folder).commands)

pub returns-in-Some-clause-result_value : goal.returns-in-Some-clause-result_value
unfolding guards_in
returns-in-Some-clause-result_value c =
    let l : c.loop-c.c < (model_of c.args.m.now).commands = omega (arith, c.loop-c-test.true, commands-are _ c.body-cs.ensures c.count_of-c-end.ensures) in
    search-hit c.loop-c.invariant.0 l (guard-wants c.requires.node _ c.body-cs.ensures c.field-e.ensures.0 (c.entry_wants.ensures.truth_value (guard-there c.requires.node _ c.body-cs.ensures c.field-e.ensures.0 l))) c.in-Some.is

pub loop-c-preserved : goal.loop-c-preserved
loop-c-preserved c =
    let l : c.loop-c.c < (model_of c.args.m.now).commands = omega (arith, c.loop-c-test.true, commands-are _ c.body-cs.ensures c.count_of-c-end.ensures) in
    (search-miss c.loop-c.invariant.0 l (guard-wants c.requires.node _ c.body-cs.ensures c.field-e.ensures.0 (c.entry_wants.ensures.truth_value (guard-there c.requires.node _ c.body-cs.ensures c.field-e.ensures.0 l))) c.in_default.is, c.entry_wants.ensures.label_flagged, omega arith)

pub returns-clause-result_value : goal.returns-clause-result_value
unfolding guards_in
returns-clause-result_value c = search-end c.loop-c.invariant.0 (omega (arith, c.loop-c-test.false, commands-are _ c.body-cs.ensures c.count_of-c-end.ensures))
