-- Row 10, by the row that holds the ranges of the entries.
-- Assumes nothing.
use Prim.Native.Nat.{ℕ, ◌<◌}
use mathlib.Core.Path.{◌≡◌, sym, ◌∙◌}
use mathlib.Core.Bool.{Bool, true}
use mathlib.Core.List.{List}
use lib.ListN.{get_or}
use lib.IntN.{pos}
use Rattle.folder.specs.Contents.{count_of}
use Rattle.expressions.specs.Entries.{entries_of, is_number}
use Rattle.expressions.specs.Ranges.{span, bound_in, inside}
use Rattle.expressions.specs.declared.Range.{Range}
use Rattle.expressions.proofs.Decided.{number-decided}
use Rattle.model_rules.specs.Bodies.{Held}
use Rattle.model.specs.Rules.{stays_in}

-- A number has an entry.
pub number-there : (x : List ℕ) (e : ℕ) {t : Bool} → t ≡ is_number (entries_of x) e → t ≡ true → e < count_of 8 x
number-there x e q h = ((number-decided (entries_of x) e).yes (sym q ∙ h)).there

module _ (x y : List ℕ) (e v : ℕ) {t : Bool} (q : t ≡ is_number (entries_of x) e) where
  -- The code's range is the one that the row holds, and `to` is the variable's.
  pub stays : t ≡ true → {row : List Range} → Held x y row → {to : Range} → to ≡ bound_in y v
      → {s : Bool} → s ≡ inside (get_or row e (span (pos 0) (pos 0))) to → s ≡ stays_in (entries_of x) (bound_in y) e v
  stays n held p i = i ∙ rw (held.is e (number-there x e q n), p, sym q ∙ n)
