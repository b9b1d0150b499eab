use native.Mathlib.Omega.{arith}
use mathlib.Core.Path.{refl, sym, ◌∙◌}
use Rattle.report.proofs.ReportLaws.{answer-valid, answer-summary, report-of}
use Rattle.report.proofs.report.Goals as goal

pub put_accepted-requires : goal.put_accepted-requires
put_accepted-requires c = let e = sym c.graph_check.ensures ∙ c.in-Ok.is in record { valid = answer-valid c.args.model.now c.args.graph.now e; s_value = (answer-summary c.args.model.now c.args.graph.now e, omega arith) }

pub returns-in-Err : goal.returns-in-Err
returns-in-Err c =
    report-of c.args.model.now c.args.graph.now (sym c.in-Err.is ∙ c.graph_check.ensures) c.put_refusal.ensures refl

pub returns-in-Ok : goal.returns-in-Ok
returns-in-Ok c =
    report-of c.args.model.now c.args.graph.now (sym c.in-Ok.is ∙ c.graph_check.ensures) c.put_accepted.ensures refl
