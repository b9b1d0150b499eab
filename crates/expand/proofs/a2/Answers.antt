use Rattle.std.proofs.Common.{arith}
use Rattle.std.proofs.lemmas.Result.{err_from_is_err_and}
use Rattle.expand.proofs.Readings.{a2-open, a2-closed, a2-target, a2-other}
use Rattle.expand.proofs.a2.Goals as goal

pub returns-in_err-guards_known-in-1-clause-value : goal.returns-in_err-guards_known-in-1-clause-value
returns-in_err-guards_known-in-1-clause-value c =
    let p = err_from_is_err_and c.from_residual.result c.from_residual.ensures.1 in
    rw (p.1, p.2) (a2-open c.requires.node c.node_field.ensures.0 c.in-1.is c.in_err-guards_known-in-1.ensures.value)

pub returns-in_ok-guards_known-in-1-clause-value : goal.returns-in_ok-guards_known-in-1-clause-value
returns-in_ok-guards_known-in-1-clause-value c =
    a2-closed c.requires.node c.node_field.ensures.0 c.in-1.is c.in_ok-guards_known-in-1.ensures.value _ c.target_kept.ensures.value

pub returns-in-3-clause-value : goal.returns-in-3-clause-value
returns-in-3-clause-value c = a2-target c.requires.node c.node_field.ensures.0 c.in-3.is _ c.target_kept-in-3.ensures.value

pub returns-in_default-clause-value : goal.returns-in_default-clause-value
returns-in_default-clause-value c = a2-other c.requires.node c.node_field.ensures.0 (λ e. grind arith) (λ e. grind arith)
