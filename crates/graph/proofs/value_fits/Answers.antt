use mathlib.Core.Path.{refl, ◌∙◌}
use Rattle.graph.proofs.NodeLaws.{value-is}
use Rattle.folder.proofs.Signed.{back}
use Rattle.graph.proofs.value_fits.Goals as goal

pub returns : goal.returns
returns c = λ m g h.
    value-is h _ _ c.node_size-size.ensures.0 (back c.signed_field-low.type_inv ∙ c.signed_field-low.ensures) (back c.signed_field-high.type_inv ∙ c.signed_field-high.ensures) (back c.signed_field-concrete.type_inv ∙ c.signed_field-concrete.ensures) (back c.signed_field-label.type_inv ∙ c.signed_field-label.ensures) refl c.field.ensures.0 c.has_bit-tracked.ensures c.equal.ensures
