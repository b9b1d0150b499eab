use mathlib.Core.Path.{refl, ◌∙◌}
use Rattle.labels.proofs.Fields.{signed_same}
use Rattle.labels.proofs.Nodes.same_field.Goals as goal

pub returns : goal.returns
returns c =
    signed_same c.field.result c.field-2.result c.field.ensures.1 c.field-2.ensures.1
    ∙ rw (c.field.ensures.0, c.field-2.ensures.0) refl
