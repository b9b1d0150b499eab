-- A row from a combination to the next: what it comes to, and the loop that writes it.
-- Assumes nothing.
use Prim.Native.Nat.{ℕ, suc, ◌+◌, ◌≤◌, ◌<◌}
use mathlib.Core.Path.{◌≡◌, sym, ap, ◌∙◌}
use mathlib.Core.Bool.{Bool, true, false, not}
use mathlib.Core.List.{List}
use native.Mathlib.Nat.{le_refl, lt_irrefl}
use native.Mathlib.Decide.{dec_lt}
use native.Mathlib.Omega.{arith}
use borrow.Author.Tests.{not-true}
use lib.ListN.{length, get_or, set}
use lib.Seq.{ext_get_or}
use lib.IntN.{ℤ, pos}
use Rattle.folder.specs.Contents.{count_of}
use Rattle.folder.specs.Tab.{tab, fill}
use Rattle.folder.proofs.TabLaws.{length-tab, get_or-tab}
use Rattle.folder.proofs.FillLaws.{Filled, fill_start, fill-next, length-fill, get_or-filled, get_or-kept}
use Rattle.folder.proofs.ScanLaws.{Scanned, scan-start, scan-next, all-passed}
use Rattle.expressions.specs.Ranges.{bound_in}
use Rattle.expressions.specs.Combinations.{Label, value_in, combination}
use Rattle.choices.specs.Ranged.{Ranged, label_in}
use Rattle.choices.specs.Next.{stops_at, next_value}
use Rattle.choices.proofs.Carry.{Last}
use Rattle.choices.proofs.Steps.{f, stops, rests, next-is, above-stays}

module _ (y : List ℕ) (m t : ℕ) (row₀ : List ℤ) where
  abbrev pub stops_in : ℕ → Bool
  stops_in i = stops_at (bound_in y) m t i (get_or row₀ i (pos 0))

  abbrev pub rests_in : ℕ → Bool
  rests_in i = not (stops_in i)

  abbrev pub next_in : ℕ → ℤ
  next_in i = next_value (bound_in y) m t i (get_or row₀ i (pos 0))

  -- The next combination.
  abbrev pub Next : List ℤ → Type 0
  Next row = (vals : List ℤ) (j : ℕ) → row₀ ≡ combination (label_in y t vals) m j → row ≡ combination (label_in y t vals) m (suc j)

  module _ (ranged : Ranged y) (vals : List ℤ) (j : ℕ) (e : row₀ ≡ combination (label_in y t vals) m j) where
    abbrev L : Label
    L = label_in y t vals

    here : (i : ℕ) → i < count_of 6 y → get_or row₀ i (pos 0) ≡ value_in L m j i
    unfolding combination
    here i l = rw e (get_or-tab (pos 0) (count_of 6 y) (value_in L m j) i l)

    stops-here : (i : ℕ) → i < count_of 6 y → (b : Bool) → stops_in i ≡ b → stops L m j i ≡ b
    stops-here i l b h = ap (λ (z : ℤ). stops_at (bound_in y) m t i z) (sym (here i l)) ∙ h

    -- None of the first r stops.
    module _ (r : ℕ) (w : r ≤ count_of 6 y) (below : (i : ℕ) → i < r → stops_in i ≡ false) where
      all-last : (i : ℕ) → i < r → Last (f L m) j i
      all-last i l = rests L m ranged.ordered j i (omega arith) (stops-here i (omega arith) false (below i l))

      next_here : (i : ℕ) → i ≤ r → i < count_of 6 y → next_in i ≡ value_in L m (suc j) i
      next_here i l k =
          ap (λ (z : ℤ). next_value (bound_in y) m t i z) (here i k)
          ∙ next-is L m ranged.ordered j i k (λ v h. all-last v (omega arith))

      -- The first k are next, and those above stay.
      filled : (k : ℕ) → k ≤ suc r → k ≤ count_of 6 y → ((i : ℕ) → k ≤ i → i < count_of 6 y → value_in L m j i ≡ value_in L m (suc j) i)
          → fill k next_in row₀ ≡ combination L m (suc j)
      unfolding combination
      filled k a b stay =
          let n : length row₀ ≡ count_of 6 y = rw e (length-tab (count_of 6 y) (value_in L m j)) in
          let long : length (fill k next_in row₀) ≡ count_of 6 y = length-fill k next_in row₀ (omega arith) ∙ n in
          ext_get_or (pos 0) (fill k next_in row₀) (tab (count_of 6 y) (value_in L m (suc j)))
          (long ∙ sym (length-tab (count_of 6 y) (value_in L m (suc j))))
          (λ i l. at i (omega arith) (dec_lt i k) ∙ sym (get_or-tab (pos 0) (count_of 6 y) (value_in L m (suc j)) i (omega arith)))
        where
          at : (i : ℕ) → i < count_of 6 y → Dec (i < k) → get_or (fill k next_in row₀) i (pos 0) ≡ value_in L m (suc j) i
          at i l (yes h) = get_or-filled (pos 0) k next_in row₀ i h ∙ next_here i (omega arith) l
          at i l (no g) = get_or-kept (pos 0) k next_in row₀ i (omega arith) ∙ here i l ∙ stay i (omega arith) l

-- ---- the loop, whose invariant is that the first v of n have their next values, and none of them stops
pub record Moving (y : List ℕ) (m t n : ℕ) (row₀ row : List ℤ) (v : ℕ) : Type 0 where
  pub put : Filled (next_in y m t row₀) n row₀ row v
  pub rested : Scanned (rests_in y m t row₀) n v

pub moving-start : (y : List ℕ) (m t n : ℕ) (row : List ℤ) → Moving y m t n row row 0
moving-start y m t n row = record { put = fill_start (next_in y m t row) n row; rested = scan-start (rests_in y m t row) n }

module _ {y : List ℕ} {m t n : ℕ} {row₀ row : List ℤ} {v : ℕ} (h : Moving y m t n row₀ row v) (ranged : Ranged y) (c : n ≡ count_of 6 y) where
  below : (i : ℕ) → i < v → stops_in y m t row₀ i ≡ false
  below i l = not-true (stops_in y m t row₀ i) (all-passed (rests_in y m t row₀) v (sym h.rested.passed) (le_refl v) i l)

  pub moving-over : n ≤ v → Next y m t row₀ row
  moving-over l vals j e =
      let q : v ≡ count_of 6 y = omega (arith, h.put.within) in
      h.put.is ∙ filled y m t row₀ ranged vals j e v (omega arith) below v (omega arith) (omega arith) (λ i k u. absurd (lt_irrefl v (omega arith)))

  -- The code reads z at v, puts z' there, and tests z.
  module _ {z z' : ℤ} {b : Bool} (w : length row₀ ≡ count_of 6 y) (l : v < n) (e : z ≡ get_or row v (pos 0)) (q : z' ≡ next_value (bound_in y) m t v z) (s : b ≡ stops_at (bound_in y) m t v z) where
    read : z ≡ get_or row₀ v (pos 0)
    read = e ∙ ap (λ (d : List ℤ). get_or d v (pos 0)) h.put.is ∙ get_or-kept (pos 0) v (next_in y m t row₀) row₀ v (le_refl v)

    pub put_next : Filled (next_in y m t row₀) n row₀ (set row v z') (v + 1)
    put_next = fill-next h.put l (omega arith) (q ∙ ap (λ (x : ℤ). next_value (bound_in y) m t v x) read)

    test : b ≡ stops_in y m t row₀ v
    test = s ∙ ap (λ (x : ℤ). stops_at (bound_in y) m t v x) read

    pub moving-next : b ≡ false → Moving y m t n row₀ (set row v z') (v + 1)
    moving-next f = record { put = put_next; rested = scan-next h.rested l (ap not test) (ap not f) }

    pub moving-found : b ≡ true → Next y m t row₀ (set row v z')
    moving-found f vals j g =
        let k : v < count_of 6 y = omega arith in
        put_next.is ∙ filled y m t row₀ ranged vals j g v (omega arith) below (v + 1) (omega arith) (omega arith)
        (λ i a u. above-stays (label_in y t vals) m ranged.ordered j v k (all-last y m t row₀ ranged vals j g v (omega arith) below)
        (stops-here y m t row₀ ranged vals j g v k true (sym test ∙ f)) i (omega arith))
