use Rattle.std.proofs.Common.{◌≡◌, rules, sym, ◌∙◌}
use Rattle.std.specs.Prelude.{Err}
use Rattle.graph.proofs.Decided.{accepted-valid}
use Rattle.laguipy.proofs.IndexLaws.{index-refused, index-goes-on}
use Rattle.laguipy.proofs.index.Goals as goal

pub index_fill-requires : goal.index_fill-requires
index_fill-requires c = (accepted-valid c.args.model.now c.args.graph.now).0 (sym c.graph_outcome.ensures ∙ c.in_ok-graph_outcome.was)

pub returns-in_err-graph_outcome : goal.returns-in_err-graph_outcome
returns-in_err-graph_outcome c =
    let q : c.from_residual.result ≡ Err c.in_err-graph_outcome.field-0.0 = search rules in
    let r = index-refused c.args.model.now c.args.graph.now c.args.slots.now c.args.batch.now c.args.answers.now c.args.listing.now (sym c.graph_outcome.ensures ∙ c.in_err-graph_outcome.was) in
    record { value = q ∙ r.0; slots_after = r.1.0; answers_after = r.1.1.0; listing_after = r.1.1.1 }

pub returns : goal.returns
returns c =
    let r = index-goes-on c.args.model.now c.args.graph.now c.args.slots.now c.args.batch.now c.args.answers.now c.args.listing.now (sym c.graph_outcome.ensures ∙ c.in_ok-graph_outcome.was) c.index_fill.ensures.value c.index_fill.ensures.slots_after c.index_fill.ensures.answers_after c.index_fill.ensures.listing_after in
    record { value = r.0; slots_after = r.1.0; answers_after = r.1.1.0; listing_after = r.1.1.1 }
