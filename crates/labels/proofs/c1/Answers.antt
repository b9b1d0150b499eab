use Rattle.labels.proofs.RuleLaws.{c1-is, c1-free}
use Rattle.labels.proofs.c1.Goals as goal

pub returns-then-field-ne-COVERED : goal.returns-then-field-ne-COVERED
returns-then-field-ne-COVERED c =
    c1-free (record { variables = c.nodes_of-nodes.ensures.0; nodes = c.nodes_of-nodes.ensures.1 }) _
    c.field.ensures.0 c.if-field-ne-COVERED.true

pub returns : goal.returns
returns c =
    c1-is (record { variables = c.nodes_of-nodes.ensures.0; nodes = c.nodes_of-nodes.ensures.1 }) _
    c.field.ensures.0 c.if-field-ne-COVERED.false c.field-k.ensures.0 c.field-2.ensures.0 c.agree.ensures
