use Rattle.covers.proofs.CoverLaws.{field-by, waits-is}
use Rattle.covers.proofs.waits.Goals as goal

pub returns : goal.returns
returns c = waits-is _ _ _ (field-by _ _ _ _ c.node_size.ensures.0 c.field.ensures.0) c.is_waiting.ensures
