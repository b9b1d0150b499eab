use mathlib.Core.Path.{◌≡◌, ap, ◌∙◌}
use borrow.Author.Rules.{rules}
use Rattle.std.specs.Prelude.{Err}
use Rattle.std.specs.Result.{result_err}
use Rattle.wants.proofs.Answers.{either-hit, either-miss, given-else}
use Rattle.wants.proofs.expanded_wants.Goals as goal

pub returns-in-Some-clause-wanted_value : goal.returns-in-Some-clause-wanted_value
returns-in-Some-clause-wanted_value c = either-hit _ _ (given-else c.requires.n_value c.own_wants.ensures.result_value) c.in-Some.is

pub returns-in_err-end-clause-wanted_value : goal.returns-in_err-end-clause-wanted_value
returns-in_err-end-clause-wanted_value c =
    let q : c.from_residual.result ≡ Err c.in_err-end.field-0.0 = search rules in
    ap result_err q ∙ either-miss _ _ (given-else c.requires.n_value c.own_wants.ensures.result_value) c.in_default.is c.in_err-end.ensures.wanted_value

pub returns-clause-wanted_value : goal.returns-clause-wanted_value
returns-clause-wanted_value c = either-miss _ _ (given-else c.requires.n_value c.own_wants.ensures.result_value) c.in_default.is c.in_ok-end.ensures.wanted_value
