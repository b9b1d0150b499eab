use Prim.Native.Nat.{◌+◌}
use Rattle.ranges.proofs.ProductLaws.{Reached}
use Rattle.ranges.proofs.product_range.Given as goal

abbrev pub invariant-loop-p : goal.invariant-loop-p
invariant-loop-p l = Reached l.fn.a l.fn.b l.r (l.p-index + 1)
