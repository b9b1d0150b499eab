use native.Mathlib.Omega.{arith}
use lib.IntN.{◌*ℤ◌}
use Rattle.ranges.proofs.RangeLaws.{of-ends}
use Rattle.ranges.proofs.ProductLaws.{four}
use Rattle.ranges.proofs.end_products.Goals as goal

pub returns : goal.returns
returns c =
    let a = c.args.a in
    let b = c.args.b in
    four a b
    (of-ends ◌*ℤ◌ a.low b.low c.mul.type_inv c.mul.ensures (omega (arith, c.requires.0.low)) (omega (arith, c.requires.1.low)))
    (of-ends ◌*ℤ◌ a.low b.high c.mul-2.type_inv c.mul-2.ensures (omega (arith, c.requires.0.low)) (omega (arith, c.requires.1.high)))
    (of-ends ◌*ℤ◌ a.high b.low c.mul-3.type_inv c.mul-3.ensures (omega (arith, c.requires.0.high)) (omega (arith, c.requires.1.low)))
    (of-ends ◌*ℤ◌ a.high b.high c.mul-4.type_inv c.mul-4.ensures (omega (arith, c.requires.0.high)) (omega (arith, c.requires.1.high)))
