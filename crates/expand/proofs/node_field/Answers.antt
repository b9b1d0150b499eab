use Rattle.expand.proofs.node_field.Goals as goal

pub returns : goal.returns
returns c = (cc, c.field.ensures.1)
