use Rattle.std.proofs.Common.{◌≡◌, rules, sym, ◌∙◌}
use Rattle.std.specs.Prelude.{Err}
use Rattle.graph.proofs.Decided.{accepted-valid}
use Rattle.laguipy.proofs.CallLaws.{figure-graph-refused, figure-goes-on}
use Rattle.laguipy.proofs.figure_refusal.Goals as goal

pub figure_check-requires : goal.figure_check-requires
figure_check-requires c = (accepted-valid c.args.model.now c.args.graph.now).0 (sym c.graph_outcome.ensures ∙ c.in_ok-graph_outcome.was)

pub returns-in_err-graph_outcome : goal.returns-in_err-graph_outcome
returns-in_err-graph_outcome c =
    let q : c.from_residual.result ≡ Err c.in_err-graph_outcome.field-0.0 = search rules in
    q ∙ sym (figure-graph-refused c.args.model.now c.args.graph.now c.args.h c.args.first.now c.args.second.now _ (sym c.graph_outcome.ensures ∙ c.in_err-graph_outcome.was))

pub returns : goal.returns
returns c = c.figure_check.ensures ∙ sym (figure-goes-on c.args.model.now c.args.graph.now c.args.h c.args.first.now c.args.second.now (sym c.graph_outcome.ensures ∙ c.in_ok-graph_outcome.was))
