use mathlib.Core.Path.{sym, ◌∙◌}
use native.Mathlib.Omega.{arith}
use Rattle.folder.proofs.Signed.{back}
use Rattle.expressions.proofs.Combinations.{value-tracked}
use Rattle.choices.specs.Ranged.{label_in}
use Rattle.choices.proofs.Steps.{first-low}
use Rattle.choices.proofs.first_value.Goals as goal

pub returns-then-has_bit : goal.returns-then-has_bit
returns-then-has_bit c =
    λ m. back c.get_or.type_inv ∙ c.get_or.ensures ∙ sym (value-tracked (label_in c.args.y.now c.args.t c.args.vals.now) m 0 c.args.v (sym c.has_bit.ensures ∙ c.if-has_bit.true))

pub returns-else-has_bit : goal.returns-else-has_bit
returns-else-has_bit c =
    λ m. rw c.range_at.ensures (back (omega (arith, c.requires.ranged.low_small c.args.v c.requires.v_bound)))
    ∙ first-low (label_in c.args.y.now c.args.t c.args.vals.now) m c.args.v (sym c.has_bit.ensures ∙ c.if-has_bit.false)
