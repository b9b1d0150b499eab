-- A row that is filled from the front holds the ranges: a look-up is the entry's range. Where row 6 holds, every entry's range can
-- be asked for.
-- Assumes nothing.
use Prim.Native.Nat.{ℕ, ◌<◌, ◌≤◌}
use mathlib.Core.Path.{◌≡◌, sym}
use mathlib.Core.List.{List}
use native.Mathlib.Nat.{le_refl}
use lib.ListN.{length}
use lib.IntN.{pos}
use Rattle.folder.specs.Scan.{first_bad}
use Rattle.folder.specs.Tab.{fill}
use Rattle.folder.proofs.ScanLaws.{all-passed}
use Rattle.folder.proofs.FillLaws.{length-fill, get_or-filled}
use Rattle.expressions.specs.Entries.{entries_of}
use Rattle.expressions.specs.Ranges.{span, bound_in, limits}
use Rattle.expressions.specs.Right.{Inside}
use Rattle.expressions.specs.Rules.{range_fits}
use Rattle.expressions.proofs.Decided.{range-decided}
use Rattle.expressions.specs.declared.Range.{Range}
use Rattle.ranges.specs.Settled.{range_in, Settled}

pub settled : (x y : List ℕ) (n : ℕ) (row row₀ : List Range) → row ≡ fill n (range_in x y) row₀ → n ≤ length row₀ → Settled x y row n
settled x y n row row₀ p h = record {
  long = rw (p, length-fill n (range_in x y) row₀ h) h;
  is = λ i k. rw p (get_or-filled (span (pos 0) (pos 0)) n (range_in x y) row₀ i k);
}

-- Where none of the first n ranges leaves the limits.
pub inside-below : (x y : List ℕ) (n : ℕ) → first_bad (range_fits (entries_of x) (bound_in y)) n ≡ n → (i : ℕ) → i < n → Inside (range_in x y i) limits
inside-below x y n h i l = (range-decided (entries_of x) (bound_in y) i).yes (all-passed (range_fits (entries_of x) (bound_in y)) n (sym h) (le_refl n) i l)
