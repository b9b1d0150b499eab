use mathlib.Core.Path.{ap₂, ◌∙◌}
use Rattle.std.specs.Int.{int_min}
use Rattle.folder.proofs.Signed.{back, back_fits}
use Rattle.whole.proofs.Order.{min-is}
use Rattle.whole.proofs.min.Goals as goal

pub returns : goal.returns
returns c = back c.min.type_inv ∙ c.min.ensures.value ∙ ap₂ int_min (back_fits c.ranges.a) (back_fits c.ranges.b) ∙ min-is c.args.a c.args.b
