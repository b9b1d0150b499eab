use Rattle.std.proofs.Common.{sym, ◌∙◌}
use Rattle.std.proofs.lemmas.Result.{err_from_is_err_and}
use Rattle.graph_rules.proofs.NodeLaws.{at-first, goes-on, breaks, second-broken, second-holds, last-second}
use Rattle.graph_rules.proofs.asked_rules.Goals as goal

pub returns-in_err-with_second : goal.returns-in_err-with_second
returns-in_err-with_second c =
    let p = err_from_is_err_and c.from_residual.result c.from_residual.ensures.1 in
    rw (p.1, p.2) (breaks (at-first _) (second-broken c.a2.result _ 19 c.a2.ensures.value c.in_err-with_second.ensures))

pub returns-in_err-rule : goal.returns-in_err-rule
returns-in_err-rule c =
    let p = err_from_is_err_and c.from_residual-in_err-rule.result c.from_residual-in_err-rule.ensures.1 in
    rw (p.1, p.2) (breaks (goes-on (at-first _) (second-holds c.a2.result _ _ c.a2.ensures.value c.in_ok-with_second.ensures)) (sym c.b1.ensures ∙ c.in_err-rule.ensures.0, c.in_err-rule.ensures.1))

pub returns : goal.returns
returns c =
    last-second _ (goes-on (goes-on (at-first _) (second-holds c.a2.result _ _ c.a2.ensures.value c.in_ok-with_second.ensures)) (sym c.b1.ensures ∙ c.in_ok-rule.ensures))
    c.b2.result c.with_second-2.result c.b2.ensures c.with_second-2.ensures
