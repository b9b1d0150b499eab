-- Request 2.3: the least and the greatest of the four end products of two ranges, in one pass.
-- Assumes nothing.
use Rattle.std.specs.Prelude.{ℕ, zero, suc, ℤ, ◌*ℤ◌}
use Rattle.expressions.specs.Ranges.{span, hull}
use Rattle.expressions.specs.declared.Range.{Range}

-- How many end products two ranges have.
abbrev pub end_products : ℕ
end_products = 4

-- End product i, in the order of `product`; past the last, the last.
unfoldable pub end_product : Range → Range → ℕ → ℤ
end_product a b zero = a.low *ℤ b.low
end_product a b (suc zero) = a.low *ℤ b.high
end_product a b (suc (suc zero)) = a.high *ℤ b.low
end_product a b (suc (suc (suc i))) = a.high *ℤ b.high

-- The least and the greatest of end products 0 to i: each widens the range of those before it.
unfoldable pub reach : Range → Range → ℕ → Range
reach a b zero = span (end_product a b 0) (end_product a b 0)
reach a b (suc i) = hull (reach a b i) (span (end_product a b (suc i)) (end_product a b (suc i)))
