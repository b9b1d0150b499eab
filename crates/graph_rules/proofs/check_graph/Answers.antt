use Rattle.std.proofs.Common.{◌≡◌, rules, sym, ◌∙◌}
use Rattle.std.specs.Prelude.{Err}
use Rattle.model.specs.Model.{model_of}
use Rattle.graph.proofs.RowLaws.{rows_right, rows_then, rows-refused}
use Rattle.graph_rules.proofs.check_graph.Goals as goal

pub check_nodes-requires-clause-rows_right : goal.check_nodes-requires-clause-rows_right
check_nodes-requires-clause-rows_right c = (rows_right (model_of c.args.m.now) c.args.g.now).0 (sym c.check_rows.ensures ∙ c.in_ok-check_rows.was)

pub returns-in_err-check_rows : goal.returns-in_err-check_rows
returns-in_err-check_rows c =
    let q : c.from_residual.result ≡ Err c.in_err-check_rows.field-0.0 = search rules in
    q ∙ sym (rows-refused (model_of c.args.m.now) c.args.g.now _ (sym c.check_rows.ensures ∙ c.in_err-check_rows.was))

pub returns : goal.returns
returns c = c.check_nodes.ensures ∙ sym (rows_then (model_of c.args.m.now) c.args.g.now (sym c.check_rows.ensures ∙ c.in_ok-check_rows.was))
