use mathlib.Core.Path.{ap₂}
use mathlib.Core.Bool.{◌&&◌}
use Rattle.expand.specs.Tests.{variable_follows}
use Rattle.expand.proofs.variable_follows.Goals as goal

pub returns : goal.returns
unfolding variable_follows
returns c = λ is. ap₂ ◌&&◌ c.result_is-same.ensures (c.label_is.ensures is)
