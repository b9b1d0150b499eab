use borrow.Author.Tests.{not-true, not-false}
use Rattle.wants.proofs.Answers.{given-on, given-off, either-hit, either-miss, target-there, target-wants}
use Rattle.wants.proofs.own_wants.Goals as goal

pub returns-then-not-asked-clause-result_value : goal.returns-then-not-asked-clause-result_value
returns-then-not-asked-clause-result_value c = given-off _ (not-true _ c.if-not-asked.true-raw)

pub returns-in-Some-clause-result_value : goal.returns-in-Some-clause-result_value
returns-in-Some-clause-result_value c = given-on (not-false _ c.if-not-asked.false-raw) (either-hit _ _ c.guards_want.ensures.result_value c.in-Some.is)

pub returns-clause-result_value : goal.returns-clause-result_value
returns-clause-result_value c =
    let i = target-there c.requires.node c.body.ensures c.field-target.ensures.0 in
    given-on (not-false _ c.if-not-asked.false-raw) (either-miss _ _ c.guards_want.ensures.result_value c.in_default.is (target-wants c.requires.node c.body.ensures c.field-target.ensures.0 (c.entry_wants.ensures.truth_value i)))
