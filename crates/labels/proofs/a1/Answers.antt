use Rattle.labels.proofs.RuleLaws.{a1-is}
use Rattle.labels.proofs.a1.Goals as goal

pub returns : goal.returns
returns c =
    a1-is (record { variables = c.nodes_of-nodes.ensures.0; nodes = c.nodes_of-nodes.ensures.1 }) _
    c.field.ensures.0 c.agree.ensures
