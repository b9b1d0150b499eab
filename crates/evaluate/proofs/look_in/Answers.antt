use mathlib.Core.Path.{◌∙◌, ap}
use Rattle.folder.proofs.Signed.{back}
use Rattle.expressions.specs.Reading.{look_in}
use Rattle.evaluate.proofs.look_in.Goals as goal
use Rattle.std.specs.Prelude.{Some}

pub returns-then-has_bit : goal.returns-then-has_bit
unfolding look_in
returns-then-has_bit c = rw (← c.has_bit.ensures, c.if-has_bit.true) (ap Some (back c.value_at.type_inv ∙ c.value_at.ensures))

pub returns-else-has_bit : goal.returns-else-has_bit
unfolding look_in
returns-else-has_bit c = rw (← c.has_bit.ensures, c.if-has_bit.false)
