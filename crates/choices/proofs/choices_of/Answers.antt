use mathlib.Core.Path.{◌∙◌, ap, refl}
use native.Mathlib.Omega.{arith}
use Rattle.expressions.specs.Combinations.{width_of, choices}
use Rattle.choices.proofs.choices_of.Goals as goal

pub returns-then-is_free : goal.returns-then-is_free
unfolding choices
returns-then-is_free c =
    rw (← c.is_free.ensures, c.if-is_free.true)
    (c.width.ensures.0 ∙ ap width_of c.range_at.ensures, c.width.ensures.1)

pub returns-else-is_free : goal.returns-else-is_free
unfolding choices
returns-else-is_free c = rw (← c.is_free.ensures, c.if-is_free.false) (refl, omega arith)
