use Rattle.std.proofs.Common.{◌≡◌, rules, sym, ◌∙◌}
use Rattle.std.specs.Prelude.{Err}
use Rattle.model.proofs.Decided.{accepted-valid}
use Rattle.laguipy.proofs.CallLaws.{graph-model-refused, graph-goes-on}
use Rattle.laguipy.proofs.graph_outcome.Goals as goal

pub check_graph-requires : goal.check_graph-requires
check_graph-requires c = (accepted-valid c.args.m.now).0 (sym c.check_model.ensures ∙ c.in_ok-check_model.was)

pub returns-in_err-check_model : goal.returns-in_err-check_model
returns-in_err-check_model c =
    let q : c.from_residual.result ≡ Err c.in_err-check_model.field-0.0 = search rules in
    q ∙ sym (graph-model-refused c.args.m.now c.args.g.now _ (sym c.check_model.ensures ∙ c.in_err-check_model.was))

pub returns : goal.returns
returns c = c.check_graph.ensures ∙ sym (graph-goes-on c.args.m.now c.args.g.now (sym c.check_model.ensures ∙ c.in_ok-check_model.was))
