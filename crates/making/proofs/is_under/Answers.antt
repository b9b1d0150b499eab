use Rattle.making.proofs.Marks.{under-is}
use Rattle.making.proofs.is_under.Goals as goal

pub returns : goal.returns
returns c = under-is _ _ _ _ c.node_size-size.ensures.0 c.field-kind.ensures.0 c.field-cover.ensures.0
