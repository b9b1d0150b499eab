-- The loop that fills the row, place by place, up to the first range that leaves the limits.
-- Assumes nothing.
use Prim.Native.Nat.{ℕ, ◌+◌, ◌<◌, ◌≤◌}
use mathlib.Core.Path.{◌≡◌, ap, ◌∙◌}
use mathlib.Core.Bool.{Bool, true, false}
use mathlib.Core.List.{List}
use native.Mathlib.Omega.{arith}
use lib.ListN.{length, set}
use Rattle.folder.specs.Fields.{field_limit}
use Rattle.folder.specs.Scan.{first_bad}
use Rattle.folder.proofs.FillLaws.{Filled, fill_start as row-start, fill-next as row_next}
use Rattle.folder.proofs.ScanLaws.{Scanned, scan-start, scan-next, scan-found}
use Rattle.expressions.specs.Entries.{entries_of}
use Rattle.expressions.specs.Ranges.{bound_in, inside, limits}
use Rattle.expressions.specs.Rules.{range_fits}
use Rattle.expressions.specs.declared.Range.{Range}
use Rattle.ranges.specs.Settled.{Based, range_in, Ranged}
use Rattle.ranges.proofs.RowLaws.{settled, inside-below}

-- The row after e places; row₀ is what it held before the loop.
pub record Filling (x y : List ℕ) (row₀ : List Range) (n : ℕ) (row : List Range) (e : ℕ) : Type 0 where
  pub scanned : Scanned (range_fits (entries_of x) (bound_in y)) n e
  pub filled : Filled (range_in x y) n row₀ row e

pub fill_start : (x y : List ℕ) (row : List Range) (n : ℕ) → Filling x y row n row 0
fill_start x y row n = record { scanned = scan-start _ n; filled = row-start _ n row }

module _ {x y : List ℕ} {row₀ : List Range} {n : ℕ} {row : List Range} {e : ℕ} (filling : Filling x y row₀ n row e) (l : e < n) where
  pub fill-ranged : n ≤ length row₀ → Based x y → n ≤ field_limit → Ranged x y row e e
  fill-ranged fit based small = record {
    based = based;
    held = settled x y e row row₀ filling.filled.is (omega arith);
    inside = inside-below x y e filling.scanned.passed;
    small = omega arith;
  }

  -- r is the range of entry e, and t the test of it.
  module _ {r : Range} {t : Bool} (is : r ≡ range_in x y e) (test : t ≡ inside r limits) where
    fits : t ≡ range_fits (entries_of x) (bound_in y) e
    unfolding range_fits
    fits = test ∙ ap (λ (q : Range). inside q limits) is

    pub fill-found : t ≡ false → e ≡ first_bad (range_fits (entries_of x) (bound_in y)) n
    fill-found h = scan-found filling.scanned l fits h

    pub fill-next : n ≤ length row₀ → t ≡ true → Filling x y row₀ n (set row e r) (e + 1)
    fill-next fit h = record { scanned = scan-next filling.scanned l fits h; filled = row_next filling.filled l fit is }
