use mathlib.Core.Path.{ap₂, ◌∙◌}
use native.Mathlib.Omega.{arith}
use Rattle.folder.proofs.Signed.{back}
use Rattle.whole.specs.Order.{eq_z}
use Rattle.states.proofs.Comparing.{compare-next}
use Rattle.states.proofs.compare.Goals as goal

pub loop-e-preserved : goal.loop-e-preserved
loop-e-preserved c =
    rw c.kept_if.ensures
    (compare-next _ _ _ _ c.loop-e.invariant c.loop-e-test.true c.from-e.ensures (omega (arith, c.from-e.ensures, c.requires _ c.loop-e-test.true))
    (c.equal-same.ensures ∙ ap₂ eq_z (back c.value_at.type_inv ∙ c.value_at.ensures) (back c.value_at-in-loop-e.type_inv ∙ c.value_at-in-loop-e.ensures)))
