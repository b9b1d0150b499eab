use Rattle.labels.proofs.RuleLaws.{c2-is, c2-free}
use Rattle.labels.proofs.c2.Goals as goal

pub returns-then-field-ne-COVERED : goal.returns-then-field-ne-COVERED
returns-then-field-ne-COVERED c =
    c2-free (record { variables = c.nodes_of-nodes.ensures.0; nodes = c.nodes_of-nodes.ensures.1 }) _
    c.field.ensures.0 c.if-field-ne-COVERED.true

pub returns : goal.returns
returns c =
    c2-is (record { variables = c.nodes_of-nodes.ensures.0; nodes = c.nodes_of-nodes.ensures.1 }) _
    c.field.ensures.0 c.if-field-ne-COVERED.false c.field-k.ensures.0 c.field-2.ensures.0 c.agree.ensures
