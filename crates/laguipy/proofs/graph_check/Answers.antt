use Rattle.std.proofs.Common.{◌≡◌, rules, sym, ap, ◌∙◌}
use Rattle.std.specs.Prelude.{Err, Ok}
use Rattle.graph.proofs.Decided.{accepted-valid}
use Rattle.laguipy.proofs.CallLaws.{answer-refused, answer-accepted}
use Rattle.laguipy.proofs.graph_check.Goals as goal

pub summary_of-requires : goal.summary_of-requires
summary_of-requires c = let valid = (accepted-valid c.args.model.now c.args.graph.now).0 (sym c.graph_outcome.ensures ∙ c.in_ok-graph_outcome.was) in record { valid = valid.model; g_bound = valid.rows.folder.few }

pub returns-in_err-graph_outcome : goal.returns-in_err-graph_outcome
returns-in_err-graph_outcome c =
    let q : c.from_residual.result ≡ Err c.in_err-graph_outcome.field-0.0 = search rules in
    q ∙ sym (answer-refused c.args.model.now c.args.graph.now _ (sym c.graph_outcome.ensures ∙ c.in_err-graph_outcome.was))

pub returns : goal.returns
returns c = ap Ok c.summary_of.ensures ∙ sym (answer-accepted c.args.model.now c.args.graph.now (sym c.graph_outcome.ensures ∙ c.in_ok-graph_outcome.was))
