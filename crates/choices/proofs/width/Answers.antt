use Prim.Native.Nat.{◌+◌, ◌≤◌}
use mathlib.Core.Path.{◌≡◌, refl, ap, ap₂, ◌∙◌}
use native.Mathlib.Omega.{arith}
use lib.IntN.{ℤ, pos, nat_abs, ◌-ℤ◌}
use mir.Syntax.{w64}
use mir.Val.{to_z, of_z}
use Rattle.folder.specs.Fields.{field_limit}
use Rattle.folder.proofs.Signed.{back}
use Rattle.expressions.specs.Ranges.{span}
use Rattle.expressions.specs.Combinations.{width_of}
use Rattle.expressions.proofs.Widths.{Apart, apart}
use Rattle.choices.proofs.width.Goals as goal

-- The difference, as the code has it.
module _ (a b r : ℤ) (p : Apart a b) (e : r ≡ b -ℤ a) where
  read : to_z w64 (of_z w64 r) ≡ pos p.far-by
  read = ap (λ (z : ℤ). to_z w64 (of_z w64 z)) (e ∙ p.is) ∙ back (omega (arith, p.small))

  is-width : (nat_abs (to_z w64 (of_z w64 r)) + 1 ≡ width_of (span a b)) × (nat_abs (to_z w64 (of_z w64 r)) + 1 ≤ field_limit)
  unfolding width_of
  is-width = rw (read, p.is) (refl, omega (arith, p.small))

pub returns : goal.returns
returns c =
    let low : to_z w64 (of_z w64 c.args.r.low) ≡ c.args.r.low = back (omega arith) in
    let high : to_z w64 (of_z w64 c.args.r.high) ≡ c.args.r.high = back (omega arith) in
    let p = apart c.args.r.low c.args.r.high c.requires.ordered c.requires.small.0 c.requires.small.1 in
    is-width c.args.r.low c.args.r.high _ p (ap₂ ◌-ℤ◌ high low)
