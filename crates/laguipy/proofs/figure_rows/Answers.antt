use Rattle.std.proofs.Common.{◌≡◌, rules, sym, ◌∙◌}
use Rattle.std.specs.Prelude.{Err}
use Rattle.graph.proofs.Decided.{accepted-valid}
use Rattle.laguipy.proofs.CallLaws.{figure-graph-refused, figure-goes-on, first-is, second_is}
use Rattle.laguipy.proofs.figure_rows.Goals as goal

pub figure_fill-requires : goal.figure_fill-requires
figure_fill-requires c = (accepted-valid c.args.model.now c.args.graph.now).0 (sym c.graph_outcome.ensures ∙ c.in_ok-graph_outcome.was)

pub returns-in_err-graph_outcome : goal.returns-in_err-graph_outcome
returns-in_err-graph_outcome c =
    let q : c.from_residual.result ≡ Err c.in_err-graph_outcome.field-0.0 = search rules in
    let r = figure-graph-refused c.args.model.now c.args.graph.now c.args.h c.args.first.now c.args.second.now _ (sym c.graph_outcome.ensures ∙ c.in_err-graph_outcome.was) in
    record { value = q ∙ sym r; first_after = sym (first-is c.args.model.now c.args.graph.now c.args.h c.args.first.now c.args.second.now r); second_after = sym (second_is c.args.model.now c.args.graph.now c.args.h c.args.first.now c.args.second.now r) }

pub returns : goal.returns
returns c =
    let r = figure-goes-on c.args.model.now c.args.graph.now c.args.h c.args.first.now c.args.second.now (sym c.graph_outcome.ensures ∙ c.in_ok-graph_outcome.was) in
    record { value = c.figure_fill.ensures.value ∙ sym r; first_after = c.figure_fill.ensures.first_after ∙ sym (first-is c.args.model.now c.args.graph.now c.args.h c.args.first.now c.args.second.now r); second_after = c.figure_fill.ensures.second_after ∙ sym (second_is c.args.model.now c.args.graph.now c.args.h c.args.first.now c.args.second.now r) }
