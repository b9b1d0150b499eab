use native.Mathlib.Omega.{arith}
use Rattle.graph.proofs.RowLaws.{few-enough}
use mathlib.Core.Logic.{⊎_elim}
use Rattle.labels.proofs.RuleLaws.{Parts}
use Rattle.labels.proofs.ValueLaws.{ready, waiting-is, target-is, expanded-is, covered-is, other-is}
use Rattle.labels.proofs.value_rule.Goals as goal

pub nodes_of-nodes-requires : goal.nodes_of-nodes-requires
nodes_of-nodes-requires c =
    (few-enough c.requires.model.folder c.requires.folder c.requires.here).0

pub best_of-best-requires : goal.best_of-best-requires
best_of-best-requires c =
    ready c.requires (record { variables = c.nodes_of-nodes.ensures.0; nodes = c.nodes_of-nodes.ensures.1 }) c.body-cs.ensures c.body-eb.ensures c.field-count.ensures.0

pub returns-in-0 : goal.returns-in-0
returns-in-0 c =
    let parts : Parts c.args.m.now c.args.g.now c.nodes_of-nodes.result.vars c.nodes_of-nodes.result.body.now = record { variables = c.nodes_of-nodes.ensures.0; nodes = c.nodes_of-nodes.ensures.1 } in
    ⊎_elim
    (λ e. waiting-is c.requires parts c.field.ensures.0 c.get_or-value.ensures e)
    (λ e. target-is c.requires parts c.field.ensures.0 c.get_or-value.ensures e)
    c.in-0.is

pub returns-in-1 : goal.returns-in-1
returns-in-1 c =
    let parts : Parts c.args.m.now c.args.g.now c.nodes_of-nodes.result.vars c.nodes_of-nodes.result.body.now = record { variables = c.nodes_of-nodes.ensures.0; nodes = c.nodes_of-nodes.ensures.1 } in
    expanded-is c.requires parts c.field.ensures.0 c.get_or-value.ensures c.in-1.is c.body-cs.ensures c.body-eb.ensures c.field-count.ensures.0 c.best_of-best.ensures.0 c.limit_of.ensures

pub returns-in-2 : goal.returns-in-2
returns-in-2 c =
    let parts : Parts c.args.m.now c.args.g.now c.nodes_of-nodes.result.vars c.nodes_of-nodes.result.body.now = record { variables = c.nodes_of-nodes.ensures.0; nodes = c.nodes_of-nodes.ensures.1 } in
    covered-is c.requires parts c.field.ensures.0 c.get_or-value.ensures c.in-2.is c.field-in-2.ensures.0 c.get_or.ensures

pub returns-in_default : goal.returns-in_default
returns-in_default c =
    let parts : Parts c.args.m.now c.args.g.now c.nodes_of-nodes.result.vars c.nodes_of-nodes.result.body.now = record { variables = c.nodes_of-nodes.ensures.0; nodes = c.nodes_of-nodes.ensures.1 } in
    other-is c.requires parts c.field.ensures.0 c.get_or-value.ensures (λ e. grind arith) (λ e. grind arith) (λ e. grind arith) (λ e. grind arith)
