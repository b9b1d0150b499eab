-- Rows of flags: raised for the parts of flagged entries, downward, and listed upward.
-- Assumes nothing.
use Prim.Native.Nat.{ℕ, ◌≤◌, ◌<◌, zero-le}
use mathlib.Core.Path.{◌≡◌}
use mathlib.Core.List.{List}
use native.Mathlib.Omega.{arith}
use borrow.Author.Tests.{eq-eqb, eqb-true}
use lib.ListN.{get_or, length}
use Rattle.folder.specs.Tab.{passing}
use Rattle.folder.proofs.TabLaws.{passing-at, passing-stands}
use Rattle.folder.proofs.ListLaws.{passing-place}
use Rattle.expressions.specs.Entries.{Entries, number_form, truth_form}
use Rattle.expressions.specs.Parts.{Lower}
use Rattle.expressions.proofs.Parts.{both-number, both-truth, map-number, map-truth}
use Rattle.states.specs.Needed.{is_up, Up, PartsUp, ClosedFrom, Before, Ordered}

-- ---- all entries, downward
module _ (x : Entries) where
  -- From e on the flags are closed; they began as `before`.
  pub record ClosedDown (before flags : List ℕ) (e : ℕ) : Type 0 where
    pub within : e ≤ x.count
    pub long : length flags ≡ length before
    pub more : (k : ℕ) → Up before k → Up flags k
    pub closed : ClosedFrom x flags e

  -- ---- the list of what is flagged
  module _ (low : Lower x) (flags : List ℕ) (closed : ClosedFrom x flags 0) where
    abbrev list : List ℕ
    list = passing x.count (is_up flags)

    there : (i : ℕ) → i < length list → get_or list i 0 < x.count
    there i l = (passing-at x.count (is_up flags) i l).small

    parts : (i : ℕ) → i < length list → PartsUp x flags (get_or list i 0)
    parts i l = closed.parts (get_or list i 0) zero-le (there i l) (eqb-true _ 1 (passing-at x.count (is_up flags) i l).passes)

    before : (i : ℕ) → i < length list → (p : ℕ) → (Up flags p × (p < get_or list i 0)) → Before x list i p
    before i l p h =
        let t = eq-eqb (get_or flags p 0) 1 h.0 in
        let d = passing-stands (is_up flags) p (get_or list i 0) h.1 t in
        record {
          place = length (passing p (is_up flags));
          earlier = omega (arith, d.0, passing-place (is_up flags) x.count i l);
          stands = (passing-stands (is_up flags) p x.count (omega (arith, there i l)) t).1;
        }

    pub ordered : Ordered x list
    ordered = record {
      there = there;
      number = λ i l.
          let e : ℕ = get_or list i 0 in
          map-number {A' = Before x list i} {B' = Before x list i} (before i l) (before i l) (number_form x e) (both-number (Up flags) (Up flags) (λ p. p < e) (λ p. p < e) (number_form x e) (parts i l).number (low.number e));
      truth = λ i l.
          let e : ℕ = get_or list i 0 in
          map-truth {A' = Before x list i} {B' = Before x list i} (before i l) (before i l) (truth_form x e) (both-truth (Up flags) (Up flags) (λ p. p < e) (λ p. p < e) (truth_form x e) (parts i l).truth (low.truth e));
    }
