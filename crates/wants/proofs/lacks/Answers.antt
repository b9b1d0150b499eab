use Rattle.wants.proofs.Here.{field-read, lacks-as}
use Rattle.wants.proofs.lacks.Goals as goal

pub returns : goal.returns
returns c =
    lacks-as _ c.requires.masks_of _ _ c.requires.e_bound c.variable_count-vars.ensures.0 c.mask_at.ensures
    (field-read _ _ _ _ c.variable_count-vars.ensures.0 c.node_size.ensures.0 c.field-set.ensures.0) c.missing_of.ensures
