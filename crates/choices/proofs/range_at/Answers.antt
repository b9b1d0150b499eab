use mathlib.Core.Path.{refl, ap₂, ◌∙◌}
use Rattle.folder.proofs.Signed.{back}
use Rattle.expressions.specs.Ranges.{span}
use Rattle.expressions.proofs.Interval.{bound-here}
use Rattle.choices.proofs.range_at.Goals as goal

pub returns : goal.returns
returns c =
    ap₂ span (back c.signed_field.type_inv ∙ c.signed_field.ensures) (back c.signed_field-2.type_inv ∙ c.signed_field-2.ensures)
    ∙ bound-here c.args.y.now c.args.v refl c.requires.v_bound
