-- What the range of an entry is worked out from: ranges that are in order and small, and a row that holds those of lower entries.
-- Assumes nothing.
use Rattle.std.specs.Prelude.{ℕ, ◌<◌, ◌≤◌, ◌≡◌, List, length, get_or, pos, ◌≤ℤ◌}
use Rattle.std.specs.Int.Signed.{mag}
use Rattle.folder.specs.Fields.{field_limit}
use Rattle.whole.specs.Limits.{farthest}
use Rattle.expressions.specs.Entries.{entries_of}
use Rattle.expressions.specs.Parts.{Lower}
use Rattle.expressions.specs.Ranges.{span, bound_in, range_of, limits}
use Rattle.expressions.specs.Right.{Inside}
use Rattle.expressions.specs.declared.Range.{Range}

-- The low end is not above the high end.
pub record Ordered (r : Range) : Type 0 where
  pub ends : r.low ≤ℤ r.high

-- Both ends are small: what sums and products of ends ask.
pub record Near (r : Range) : Type 0 where
  pub low : mag r.low ≤ farthest
  pub high : mag r.high ≤ farthest

module _ (x y : List ℕ) where
  -- The range of entry e of the expression body x, over the variable body y.
  abbrev pub range_in : ℕ → Range
  range_in e = range_of (entries_of x) (bound_in y) e

  -- What rows 4 and 5 say: each variable's range is in order, and parts are lower.
  pub record Based : Type 0 where
    pub lower : Lower (entries_of x)
    pub ordered : (v : ℕ) → Ordered (bound_in y v)

  -- The row holds the ranges of the first n entries.
  pub record Settled (row : List Range) (n : ℕ) : Type 0 where
    pub long : n ≤ length row
    pub is : (i : ℕ) → i < n → get_or row i (span (pos 0) (pos 0)) ≡ range_in i

  -- What the range of entry e asks: the row, and that the ranges of lower entries stay in the limits.
  pub record Ranged (row : List Range) (settled e : ℕ) : Type 0 where
    pub based : Based
    pub held : Settled row settled
    pub inside : (i : ℕ) → i < e → Inside (range_in i) limits
    pub small : e ≤ field_limit
