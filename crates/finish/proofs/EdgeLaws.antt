-- Edges laid one after the other, by the row of what entries are in the state of their node.
-- Assumes nothing.
use Prim.Native.Nat.{ℕ, zero, suc, ◌+◌, ◌*◌, ◌<◌, ◌≤◌}
use mathlib.Core.Path.{◌≡◌, refl, sym, ap, ◌∙◌, subst}
use mathlib.Core.Bool.{Bool, true, false}
use mathlib.Core.List.{List, [], ◌∷◌, ◌++◌}
use native.Mathlib.Numerals.{add-one}
use native.Mathlib.Omega.{arith}
use lib.ListN.{length, length-append}
use lib.IntN.{ℤ}
use Rattle.mdp.proofs.SumLaws.{sum_more}
use Rattle.folder.specs.Fields.{field_limit}
use Rattle.folder.specs.Pick.{pick}
use Rattle.folder.specs.Contents.{field}
use Rattle.folder.specs.Tab.{tab, passing}
use Rattle.folder.proofs.TabLaws.{length-tab, passing-more}
use Rattle.folder.proofs.ListLaws.{passing-few}
use Rattle.graph.specs.Simulation.{edge_bytes}
use Rattle.put.specs.Put.{put2}
use Rattle.nodes.specs.Born.{on_in, children_in, edges_in}
use Rattle.nodes.proofs.Walk.{Costs, costs-start, costs-next}
use Rattle.written.specs.Bytes.{chain}
use Rattle.finish.specs.Laid.{Laid, edge_in, EdgesLaid}
use Rattle.finish.proofs.LaidLaws.{laid_none, laid_one, laid_then}

-- ---- one edge, if its command is enabled
module _ {on : Bool} (c x count : ℕ) {at : ℕ} {nb : List ℕ} where
  pub edge-laid : {mid new : List ℕ} → on ≡ true → at + 1 < length nb → c < field_limit → mid ≡ put2 nb at c → Laid (at + 2) (tab count (λ b. x + b)) mid new
      → Laid at (pick on (c ∷ tab count (λ b. x + b)) []) nb new
  edge-laid {mid} {new} t h l e rest =
      let one : Laid at (c ∷ []) nb mid = subst (λ (z : List ℕ). Laid at (c ∷ []) nb z) (sym e) (laid_one nb at c h l) in
      rw t (laid_then one rest)

  pub edge_none : on ≡ false → Laid at (pick on (c ∷ tab count (λ b. x + b)) []) nb nb
  edge_none t = rw t (laid_none at nb)

pub picked : {on : Bool} (x : ℕ) → on ≡ true → pick on x 0 ≡ x
picked x t = rw t refl

-- ---- how long they are
pub edge-long : (t : Bool) (c n : ℕ) (f : ℕ → ℕ) → 2 * length (pick t (c ∷ tab n f) []) ≡ pick t (edge_bytes n) 0
edge-long true c n f = omega (arith, length-tab n f)
edge-long false c n f = refl

module _ (cs : List ℕ) (row : List ℤ) (child : ℕ) where
  pub edges-long : (c : ℕ) → 2 * length (chain c (edge_in cs row child)) ≡ edges_in cs row c
  unfolding chain
  edges-long zero = refl
  edges-long (suc c) =
      omega (arith, length-append (chain c (edge_in cs row child)) (edge_in cs row child c), edges-long c, edge-long (on_in cs row c) c (field 4 cs c 1) (λ b. child + children_in cs row c + b))

-- ---- one after the other
pub chain_more : (c : ℕ) (f : ℕ → List ℕ) → chain c f ++ f c ≡ chain (c + 1) f
unfolding chain
chain_more c f = rw (add-one c)

count-more : (t : Bool) (l : List ℕ) (c : ℕ) → length l + pick t 1 0 ≡ length (l ++ pick t (c ∷ []) [])
count-more true l c = omega (arith, length-append l (c ∷ []))
count-more false l c = omega (arith, length-append l [])

-- The commands before c have so many children, bytes of edges and edges, and these are laid.
pub record Walked (cs : List ℕ) (row : List ℤ) (child at c births bytes count : ℕ) (old new : List ℕ) : Type 0 where
  pub costs : Costs cs row c births bytes
  pub laid : Laid at (chain c (edge_in cs row child)) old new
  pub counted : count ≡ length (passing c (on_in cs row))

pub walk_start : (cs : List ℕ) (row : List ℤ) (child at : ℕ) (nb : List ℕ) → Walked cs row child at 0 0 0 0 nb nb
unfolding chain passing
walk_start cs row child at nb = record { costs = costs-start cs row; laid = laid_none at nb; counted = refl }

module _ {cs : List ℕ} {row : List ℤ} {child at c births bytes count : ℕ} {old nb : List ℕ} (w : Walked cs row child at c births bytes count old nb)
    {on : Bool} {branches : ℕ} (o : on ≡ on_in cs row c) (p : branches ≡ field 4 cs c 1) where
  -- There is room for one more.
  pub bytes-room : (commands : ℕ) → c < commands → bytes + pick on (edge_bytes branches) 0 ≤ edges_in cs row commands
  bytes-room commands l =
      let e : pick on (edge_bytes branches) 0 ≡ pick (on_in cs row c) (edge_bytes (field 4 cs c 1)) 0 = λ i. pick (o i) (edge_bytes (p i)) 0 in
      omega (arith, w.costs.long, sum_more commands (λ i. pick (on_in cs row i) (edge_bytes (field 4 cs i 1)) 0) c l)

  pub births-room : (commands : ℕ) → c < commands → births + pick on branches 0 ≤ children_in cs row commands
  births-room commands l =
      let e : pick on branches 0 ≡ pick (on_in cs row c) (field 4 cs c 1) 0 = λ i. pick (o i) (p i) 0 in
      omega (arith, w.costs.born, sum_more commands (λ i. pick (on_in cs row i) (field 4 cs i 1) 0) c l)

  pub count_room : count ≤ c
  count_room = omega (arith, w.counted, passing-few (on_in cs row) c)

  own : {new : List ℕ} → Laid (at + bytes) (pick on (c ∷ tab branches (λ b. child + births + b)) []) nb new → Laid (at + 2 * length (chain c (edge_in cs row child))) (edge_in cs row child c) nb new
  own {new} h =
      let a : at + bytes ≡ at + 2 * length (chain c (edge_in cs row child)) = omega (arith, edges-long cs row child c, w.costs.long) in
      let b : pick on (c ∷ tab branches (λ b. child + births + b)) [] ≡ edge_in cs row child c = λ i. pick (o i) (c ∷ tab (p i) (λ b. child + w.costs.born i + b)) [] in
      subst (λ (us : List ℕ). Laid (at + 2 * length (chain c (edge_in cs row child))) us nb new) b
      (subst (λ (k : ℕ). Laid k (pick on (c ∷ tab branches (λ b. child + births + b)) []) nb new) a h)

  pub walk-next : {new : List ℕ} {x y z : ℕ} → branches < field_limit → Laid (at + bytes) (pick on (c ∷ tab branches (λ b. child + births + b)) []) nb new
      → (x ≡ pick on branches 0) × (x ≤ branches) → (y ≡ pick on (2 + 2 * branches) 0) × (y ≤ 2 + 2 * branches) → z ≡ pick on 1 0
      → Walked cs row child at (c + 1) (births + x) (bytes + y) (count + z) old new
  walk-next {new} {x} {y} {z} l h births-more bytes-more z-is = record {
    costs = costs-next w.costs o p l births-more.0 births-more.1 bytes-more.0 bytes-more.1;
    laid = subst (λ (us : List ℕ). Laid at us old new) (chain_more c (edge_in cs row child)) (laid_then w.laid (own h));
    counted =
        (λ i. w.counted i + (z-is ∙ ap (λ (t : Bool). pick t 1 0) o) i) ∙ count-more (on_in cs row c) (passing c (on_in cs row)) c ∙ ap length (sym (passing-more (on_in cs row) c (on_in cs row c) refl));
  }

pub walk-over : {cs : List ℕ} {row : List ℤ} {child at c births bytes count commands : ℕ} {old new : List ℕ} → Walked cs row child at c births bytes count old new → c ≡ commands
    → EdgesLaid cs row child at commands count old new
walk-over {cs} {row} {child} {at} {count = count} {old = old} {new = new} w e = subst (λ (k : ℕ). EdgesLaid cs row child at k count old new) e (record { laid = w.laid; counted = w.counted })
