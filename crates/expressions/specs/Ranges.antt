-- Document 01, "Models": the range of a number is worked out from the ranges of its parts.
-- Assumes nothing.
use Rattle.std.specs.Prelude.{ℕ, Bool, ◌&&◌, List, ltb, ℤ, pos, neg_ℤ, ◌+ℤ◌, ◌-ℤ◌, ◌*ℤ◌}
use Rattle.std.specs.Int.Signed.{le_z}
use Rattle.whole.specs.Limits.{farthest}
use Rattle.expressions.specs.Entries.{Entries}
use Rattle.expressions.specs.Levels.{Interpretation, number}
use Rattle.folder.specs.Pick.{pick}
use Rattle.folder.specs.Contents.{count_of, signed_field}
use Rattle.whole.specs.Order.{min_z, max_z}
use Rattle.expressions.specs.declared.Arith.{Arith}
use Rattle.expressions.specs.declared.Arith.TheVariants.{Add, Subtract, Multiply, Smaller, Larger}
use Rattle.expressions.specs.declared.Range.{Range}

abbrev pub span : ℤ → ℤ → Range
span a b = record { low = a; high = b }

-- The least and the greatest of the four end products.
abbrev pub least : ℤ → ℤ → ℤ → ℤ → ℤ
least a b c d = min_z (min_z a b) (min_z c d)

abbrev pub greatest : ℤ → ℤ → ℤ → ℤ → ℤ
greatest a b c d = max_z (max_z a b) (max_z c d)

abbrev pub product : Range → Range → Range
product a b =
    span (least (a.low *ℤ b.low) (a.low *ℤ b.high) (a.high *ℤ b.low) (a.high *ℤ b.high))
    (greatest (a.low *ℤ b.low) (a.low *ℤ b.high) (a.high *ℤ b.low) (a.high *ℤ b.high))

abbrev pub arith_r : Arith → Range → Range → Range
arith_r Add a b = span (a.low +ℤ b.low) (a.high +ℤ b.high)
arith_r Subtract a b = span (a.low -ℤ b.high) (a.high -ℤ b.low)
arith_r Multiply a b = product a b
arith_r Smaller a b = span (min_z a.low b.low) (min_z a.high b.high)
arith_r Larger a b = span (max_z a.low b.low) (max_z a.high b.high)

-- If: least low, greatest high.
abbrev pub hull : Range → Range → Range
hull a b = span (min_z a.low b.low) (max_z a.high b.high)

-- The range of variable v of n, from its low to its high; past the last, 0 to 0.
abbrev pub bound_of : ℕ → (ℕ → ℤ) → (ℕ → ℤ) → ℕ → Range
bound_of n low high v = pick (ltb v n) (span (low v) (high v)) (span (pos 0) (pos 0))

-- Of a variable body, whose records are low, high and initial.
unfoldable pub bound_in : List ℕ → ℕ → Range
bound_in y v = bound_of (count_of 6 y) (λ i. signed_field 6 y i 0) (λ i. signed_field 6 y i 1) v

-- `bound i` is the range of variable i. A truth has no range.
abbrev pub ranging : (ℕ → Range) → Interpretation Range (Unit {0})
ranging bound = record {
  constant = λ z. span z z;
  variable = bound;
  binary = λ k a b. arith_r k a b;
  choose = λ t a b. hull a b;
  no_number = span (pos 0) (pos 0);
  compare = λ k a b. tt;
  negate = λ t. tt;
  join = λ k t u. tt;
  always = tt;
  no_truth = tt;
}

unfoldable pub range_of : Entries → (ℕ → Range) → ℕ → Range
range_of x bound e = number (ranging bound) x e

-- A range stays in another.
unfoldable pub inside : Range → Range → Bool
inside a b = le_z b.low a.low && le_z a.high b.high

-- −1,000,000 to 1,000,000.
abbrev pub limits : Range
limits = span (neg_ℤ (pos farthest)) (pos farthest)
