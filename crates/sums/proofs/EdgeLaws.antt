-- Laws of an edge's weighted sum, of the walk over a node's edges, and of rounding up.
-- Assumes nothing.
use Prim.Native.Nat.{ℕ, zero, suc, ◌+◌, ◌-◌, ◌*◌, ◌/◌, ◌%◌, ◌≤◌, ◌<◌, max, min}
use native.Mathlib.Nat.{div-lt_iff_lt-mul, mod-add-div, mod-lt, add-mul-div_left, div-eq_of_lt}
use native.Mathlib.Omega.{arith}
use mathlib.Core.Path.{◌≡◌, refl, sym, ap, ◌∙◌}
use mathlib.Core.List.{List}
use native.Mathlib.Numerals.{add-one}
use lib.ListN.{get_or}
use native.Mathlib.Decide.{dec_lt, ℕ_discrete}
use borrow.Author.Tests.{lt-ltb, le-ltb, eq-eqb, ne_eqb}
use Rattle.std.specs.Int.{div_ceil}
use Rattle.std.specs.Ordering.{ord_max, nat_cmp}
use Rattle.mdp.specs.Sums.{rounded_up}
use Rattle.mdp.proofs.SumLaws.{greatest-next}
use Rattle.mdp.proofs.SumLoop.{Summed, sum-start, sum-next, sum_over}
use Rattle.folder.specs.Fields.{u16}
use Rattle.folder.specs.Contents.{field}
use Rattle.graph.specs.Simulation.{edge_after, edge_size}
use Rattle.sums.specs.Edges.{most_product, sum_at, EdgeFits, after, EdgeReady, EdgesReady, sum_of, best_of}

-- The edge at k: b of its n branches are added up.
pub record Weighed (weights row eb : List ℕ) (first k n b a : ℕ) : Type 0 where
  pub summed : Summed most_product (λ i. get_or weights (first + i) 0 * get_or row (u16 eb (k + 2 + 2 * i)) 0) n b a

pub weigh-start : (weights row eb : List ℕ) (first k n : ℕ) → Weighed weights row eb first k n 0 0
weigh-start weights row eb first k n = record { summed = sum-start _ _ n }

module _ {weights row eb : List ℕ} {first k n b a : ℕ} (h : Weighed weights row eb first k n b a) where
  pub weigh-next : {t to : ℕ} → b < n → to ≡ u16 eb (k + 2 + 2 * b) → t ≡ get_or weights (first + b) 0 * get_or row to 0 → t ≤ most_product
      → Weighed weights row eb first k n (b + 1) (a + t)
  weigh-next l q r s = record { summed = sum-next h.summed l (r ∙ rw q refl) s }

  pub weigh-over : n ≤ b → a ≡ sum_at weights row eb first n k
  unfolding sum_at
  weigh-over l = sum_over h.summed l refl

module _ {cs eb weights firsts : List ℕ} {nodes at count : ℕ} (R : EdgesReady cs eb weights firsts nodes at count) {k e : ℕ} (p : k ≡ after cs eb at e) (l : e < count) where
  pub ready-here : EdgeReady cs eb weights firsts nodes k
  ready-here = rw p (R.each e l)

  -- c is the command of the edge at k, and n the count of its branches.
  module _ {c n : ℕ} (q : c ≡ u16 eb k) (s : n ≡ field 4 cs c 1) where
    pub fits-here : EdgeFits weights nodes eb (get_or firsts c 0) n k
    fits-here = rw (s, q) ready-here.fits

    pub edge-next : k + (2 + 2 * n) ≡ after cs eb at (e + 1)
    unfolding edge_after edge_size
    edge-next = rw (s, q, p, add-one) refl

    pub edge_more : (row : List ℕ) {b t : ℕ} → b ≡ best_of cs eb weights firsts row at e → t ≡ sum_at weights row eb (get_or firsts c 0) n k
        → max b t ≡ best_of cs eb weights firsts row at (e + 1)
    unfolding best_of sum_of
    edge_more row u v = greatest-next e (λ i. sum_of cs eb weights firsts row (after cs eb at i)) u (v ∙ rw (s, q, p) refl)

-- An average of at most s rounds up to at most s.
pub up_small : (d x s : ℕ) → 0 < d → x ≤ d * s → (x + (d - 1)) / d < s + 1
up_small d x s p h = (div-lt_iff_lt-mul {k = d} {x = x + (d - 1)} {y = s + 1} p).1 (omega arith)

-- The library's quotient, rounded up.
left_up : (d r : ℕ) → 0 < d → r < d → (r + (d - 1)) / d ≡ min 1 r
left_up d zero p l = div-eq_of_lt (omega arith)
left_up d (suc r) p l =
    ap (λ (x : ℕ). x / d) (omega arith) ∙ add-mul-div_left r 1 {y = d} p ∙ ap (λ (x : ℕ). x + 1) (div-eq_of_lt (omega arith)) ∙ omega arith

pub ceil-is : (x d : ℕ) → 0 < d → div_ceil x d ≡ rounded_up x d
ceil-is x d p =
    let e : (x % d + (d - 1)) + d * (x / d) ≡ x + (d - 1) = omega (arith, mod-add-div x d) in
    sym (ap (λ (z : ℕ). z / d) (sym e) ∙ add-mul-div_left (x % d + (d - 1)) (x / d) {y = d} p ∙ ap (λ (z : ℕ). z + x / d) (left_up d (x % d) p (mod-lt x p)) ∙ omega arith)

-- And its larger of two.
pub larger-is : (a b : ℕ) → ord_max nat_cmp a b ≡ max a b
larger-is a b = go (dec_lt b a) (ℕ_discrete b a)
  where
    go : Dec (b < a) → Dec (b ≡ a) → ord_max nat_cmp a b ≡ max a b
    go (yes l) e = rw (lt-ltb b a l) (omega arith)
    go (no h) (yes e) = rw (le-ltb b a (omega arith), eq-eqb b a e) (omega arith)
    go (no h) (no d) = rw (le-ltb b a (omega arith), ne_eqb b a d) (omega arith)
