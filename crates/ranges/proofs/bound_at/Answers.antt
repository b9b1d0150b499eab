use mathlib.Core.Path.{◌∙◌, ap₂}
use Rattle.folder.proofs.Signed.{back}
use Rattle.expressions.specs.Ranges.{span}
use Rattle.expressions.proofs.Interval.{bound-here, bound-past}
use Rattle.ranges.proofs.bound_at.Goals as goal

pub returns-then-v-count_of : goal.returns-then-v-count_of
returns-then-v-count_of c =
    ap₂ span (back c.signed_field.type_inv ∙ c.signed_field.ensures) (back c.signed_field-then-v-count_of.type_inv ∙ c.signed_field-then-v-count_of.ensures)
    ∙ bound-here _ _ c.count_of.ensures c.if-v-count_of.true

pub returns-else-v-count_of : goal.returns-else-v-count_of
returns-else-v-count_of c = bound-past _ _ c.count_of.ensures c.if-v-count_of.false
