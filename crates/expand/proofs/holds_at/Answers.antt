use mathlib.Core.Path.{◌∙◌, ap}
use lib.IntN.{ℤ, pos}
use Rattle.folder.proofs.Signed.{back}
use Rattle.whole.specs.Order.{eq_z}
use Rattle.expand.specs.Tests.{holds_at}
use Rattle.expand.proofs.holds_at.Goals as goal

pub returns : goal.returns
unfolding holds_at
returns c = c.equal.ensures ∙ ap (λ (z : ℤ). eq_z z (pos 1)) (back c.get_or.type_inv ∙ c.get_or.ensures)
