use native.Mathlib.Omega.{arith}
use Rattle.labels.proofs.RuleLaws.{Parts}
use Rattle.labels.proofs.ValueLaws.{nodes-within, values-are}
use Rattle.labels.proofs.fill_values.Goals as goal

pub fill_fields-requires : goal.fill_fields-requires
fill_fields-requires c =
    let parts : Parts c.args.m.now c.args.g.now c.variable_count.result c.body.result.now = record { variables = c.variable_count.ensures.0; nodes = c.body.ensures } in
    (omega arith, omega arith, nodes-within parts c.node_size.ensures.0 c.requires.g_bound.0, nodes-within parts c.node_size.ensures.0 c.requires.g_bound.1)

pub returns : goal.returns
returns c =
    let parts : Parts c.args.m.now c.args.g.now c.variable_count.result c.body.result.now = record { variables = c.variable_count.ensures.0; nodes = c.body.ensures } in
    values-are parts _ c.node_size.ensures.0 c.fill_fields.ensures
