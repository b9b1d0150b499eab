use Rattle.std.proofs.Common.{arith}
use Rattle.graph.proofs.NodeLaws.{node-field}
use Rattle.graph_rules.proofs.NodeLaws.{nothing-asked, no_edges}
use Rattle.graph_rules.proofs.reading_rules.Goals as goal

pub returns-in_default : goal.returns-in_default
returns-in_default c =
    let e = node-field c.args.m.now c.args.g.now c.args.n 0 c.variable_count.ensures.0 c.node_size-size.ensures.0 c.body.ensures c.field.ensures.0 in (
      nothing-asked c.args.m.now c.args.g.now c.args.n e (λ q. grind arith) (λ q. grind arith),
      no_edges c.requires.node_of e (λ q. grind arith) c.requires.at_value,
    )
