use mathlib.Core.Path.{◌∙◌}
use Rattle.folder.proofs.Signed.{back}
use Rattle.covers.proofs.same_value.Goals as goal

pub returns : goal.returns
returns c =
    let e = back c.signed_field.type_inv ∙ c.signed_field.ensures in
    let f = back c.signed_field-2.type_inv ∙ c.signed_field-2.ensures in
    cc
