use mathlib.Core.Path.{ap₂, ◌∙◌}
use Rattle.std.specs.Int.{int_max}
use Rattle.folder.proofs.Signed.{back, back_fits}
use Rattle.whole.proofs.Order.{max-is}
use Rattle.whole.proofs.max.Goals as goal

pub returns : goal.returns
returns c = back c.max.type_inv ∙ c.max.ensures.value ∙ ap₂ int_max (back_fits c.ranges.a) (back_fits c.ranges.b) ∙ max-is c.args.a c.args.b
