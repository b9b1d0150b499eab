use mathlib.Core.Path.{◌≡◌, sym, ap, ◌∙◌}
use mathlib.Core.Bool.{true}
use native.Mathlib.Omega.{arith}
use lib.IntN.{ℤ, pos, ◌+ℤ◌}
use mir.Syntax.{w64}
use mir.Val.{SFits, to_z, of_z}
use Rattle.folder.proofs.Signed.{back, back_fits}
use Rattle.whole.proofs.Fits.{up_fits}
use Rattle.expressions.specs.Ranges.{bound_in}
use Rattle.choices.specs.Next.{stops_at}
use Rattle.choices.proofs.Steps.{stops-less, next_up, next-back, next-held}
use Rattle.choices.proofs.next_value.Goals as goal

goes_up : (c : goal.Then-stops_at) → stops_at (bound_in c.args.y.now) c.args.m c.args.t c.args.v c.args.z ≡ true
goes_up c =
    sym (c.stops_at.ensures ∙ ap (λ (z : ℤ). stops_at (bound_in c.args.y.now) c.args.m c.args.t c.args.v z) (back_fits c.ranges.z)) ∙ c.if-stops_at.true

fits : (c : goal.Then-stops_at) → SFits w64 (to_z w64 (of_z w64 c.args.z) +ℤ pos 1)
fits c =
    rw (back_fits c.ranges.z)
    (up_fits c.args.z (bound_in c.args.y.now c.args.v).high c.ranges.z (record { sfits = omega (arith, c.requires.ranged.high_small c.args.v c.requires.v_bound) })
    (stops-less (bound_in c.args.y.now) c.args.m c.args.t c.args.v c.args.z (goes_up c)))

pub overflow_add-result : goal.overflow_add-result
overflow_add-result c = fits c

pub returns-then-stops_at : goal.returns-then-stops_at
returns-then-stops_at c =
    back_fits (fits c) ∙ ap (λ (z : ℤ). z +ℤ pos 1) (back_fits c.ranges.z)
    ∙ sym (next_up (bound_in c.args.y.now) c.args.m c.args.t c.args.v c.args.z (goes_up c))

pub returns-then-is_free : goal.returns-then-is_free
returns-then-is_free c =
    rw c.range_at.ensures (back (omega (arith, c.requires.ranged.low_small c.args.v c.requires.v_bound)))
    ∙ sym (next-back (bound_in c.args.y.now) c.args.m c.args.t c.args.v c.args.z ((sym (c.stops_at.ensures ∙ ap (λ (z : ℤ). stops_at (bound_in c.args.y.now) c.args.m c.args.t c.args.v z) (back_fits c.ranges.z))) ∙ c.if-stops_at.false) (sym c.is_free.ensures ∙ c.if-is_free.true))

pub returns-else-is_free : goal.returns-else-is_free
returns-else-is_free c =
    back_fits c.ranges.z
    ∙ sym (next-held (bound_in c.args.y.now) c.args.m c.args.t c.args.v c.args.z ((sym (c.stops_at.ensures ∙ ap (λ (z : ℤ). stops_at (bound_in c.args.y.now) c.args.m c.args.t c.args.v z) (back_fits c.ranges.z))) ∙ c.if-stops_at.false) (sym c.is_free.ensures ∙ c.if-is_free.false))
