-- Where row 5 finds no broken entry, each entry is right.
-- Assumes nothing.
use Prim.Native.Nat.{ℕ, ◌<◌}
use mathlib.Core.Path.{◌≡◌, sym}
use native.Mathlib.Nat.{le_refl}
use Rattle.folder.specs.Scan.{first_bad}
use Rattle.folder.proofs.ScanLaws.{all-passed}
use Rattle.expressions.specs.Entries.{Entries}
use Rattle.expressions.specs.Rules.{entry_fits}
use Rattle.expressions.specs.Right.{EntryRight}
use Rattle.expressions.proofs.Decided.{entry-decided}

pub all_right : (x : Entries) (variables n : ℕ) → first_bad (entry_fits x variables) n ≡ n → (e : ℕ) → e < n → EntryRight x variables e
all_right x variables n q e l = (entry-decided x variables e).yes (all-passed (entry_fits x variables) n (sym q) (le_refl n) e l)
