use mathlib.Core.Path.{◌∙◌, ap}
use Rattle.evaluate.specs.Settled.{as_number, entry_reading}
use Rattle.evaluate.proofs.settle_entry.Goals as goal

pub returns-then-is_number : goal.returns-then-is_number
unfolding entry_reading
returns-then-is_number c = rw (← c.is_number.ensures, c.if-is_number.true) c.settle_number.ensures

pub returns-else-is_number : goal.returns-else-is_number
unfolding entry_reading
returns-else-is_number c =
    rw (← c.is_number.ensures, c.if-is_number.false) (c.as_number.ensures ∙ ap as_number c.settle_truth.ensures)
