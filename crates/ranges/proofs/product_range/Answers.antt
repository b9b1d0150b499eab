use Prim.Native.Nat.{◌+◌}
use native.Mathlib.Omega.{arith}
use Rattle.ranges.proofs.ProductLaws.{product-back, first-product, three-more, next-product, reach-start, reach-next, reach-over}
use Rattle.ranges.proofs.product_range.Goals as goal

pub loop-p-init : goal.loop-p-init
loop-p-init c = reach-start (product-back c.args.a c.args.b c.requires 0 (first-product c.args.a c.args.b c.end_products-products.ensures))

pub loop-p-preserved : goal.loop-p-preserved
loop-p-preserved c =
    let e = c.end_products-products.ensures in
    let l = three-more c.args.a c.args.b e in
    reach-next c.loop-p.invariant (omega (arith, l, c.loop-p-test.true))
    (product-back c.args.a c.args.b c.requires (c.loop-p.p-index + 1) (next-product c.args.a c.args.b e c.loop-p.p-index (omega (arith, l, c.loop-p-test.true))))
    c.hull_of-r.ensures

pub returns : goal.returns
returns c =
    let l = three-more c.args.a c.args.b c.end_products-products.ensures in
    reach-over c.loop-p.invariant (omega (arith, l, c.loop-p-test.false))
