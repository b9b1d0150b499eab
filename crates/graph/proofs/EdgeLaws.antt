-- Row 16 as the code walks it: the edge at a position, the edges of a node, and the bytes after the last node's.
-- Assumes nothing.
use Prim.Native.Nat.{ℕ, ◌+◌, ◌<◌}
use native.Mathlib.Nat.{le_refl}
use native.Mathlib.Numerals.{add-one}
use native.Mathlib.Omega.{arith}
use mathlib.Core.Path.{◌≡◌, refl, sym, ap, ◌∙◌, subst}
use mathlib.Core.Bool.{Bool, true, false, ◌&&◌}
use mathlib.Core.List.{List}
use lib.ListN.{length}
use lib.Dec.{ltb, leb, eqb}
use borrow.Author.Tests.{lt-ltb, le-ltb, eq-eqb, ne_eqb}
use Rattle.std.specs.Prelude.{Option, Some, None, Ok, Err}
use Rattle.std.specs.Bool.{then_some}
use Rattle.folder.specs.Pick.{pick}
use Rattle.folder.specs.Scan.{first_bad, all}
use Rattle.folder.specs.Fields.{u16}
use Rattle.folder.specs.Contents.{body, count_of, field}
use Rattle.folder.proofs.ScanLaws.{scan-none, scan-more, scan-stop}
use Rattle.model.specs.Model.{Model, model_of}
use Rattle.graph.specs.Simulation.{edge_size, edge_after, edges_start, edge_whole, node_field, edge_at, node_count, simulation_of}
use Rattle.graph.specs.Rules.{edge_fits, edges_fit}
use Rattle.graph.specs.Walks.{successor_fits, edge_fits_at, edge_fits_from, edge_end, edges_end, starts_at}

-- cs is the command body of the model folder m, and `lead` whether all successors are nodes.
pub edge-is : (m es : List ℕ) (nodes k : ℕ) {cs : List ℕ} {command commands branches size : ℕ} {lead : Bool} {end : Option ℕ} → cs ≡ body m 3
    → command ≡ u16 es k → commands ≡ count_of 4 cs → branches ≡ field 4 cs command 1 → size ≡ edge_size (model_of m) es k
    → lead ≡ all (successor_fits nodes es k) branches
    → end ≡ then_some ((ltb command commands && leb (k + size) (length es)) && lead) (k + size)
    → end ≡ edge_end (model_of m) nodes es k
unfolding edge_end edge_fits_at edge_whole
edge-is m es nodes k q pc pn pb ps p e = cc

-- ---- the edges of a node, from a on
some-told : (t : Bool) {x y : ℕ} → then_some t x ≡ Some y → (t ≡ true) × (x ≡ y)
some-told true e = (refl, cc)
some-told false e = cc

none-told : (t : Bool) (x : ℕ) → then_some t x ≡ None → t ≡ false
none-told true x e = cc
none-told false x e = refl

ok-told : (t : Bool) {x y : ℕ} (bad : ℕ) → pick t (Ok x) (Err bad) ≡ Ok y → (t ≡ true) × (x ≡ y)
ok-told true bad e = (refl, cc)
ok-told false bad e = cc

err-told : (t : Bool) {y : ℕ} (x bad : ℕ) → pick t (Ok x) (Err bad) ≡ Err y → t ≡ false
err-told true x bad e = cc
err-told false x bad e = refl

-- The walk has passed i edges, and stands at k.
pub record Passed (M : Model) (nodes : ℕ) (es : List ℕ) (a i k : ℕ) : Type 0 where
  pub scanned : first_bad (edge_fits_from M nodes es a) i ≡ i
  pub stands : k ≡ edge_after M es a i

module _ {M : Model} {nodes : ℕ} {es : List ℕ} {a : ℕ} where
  pub walk_start : Passed M nodes es a 0 a
  unfolding edge_after
  walk_start = record { scanned = scan-none _; stands = refl }

  module _ {i k : ℕ} (w : Passed M nodes es a i k) where
    here : edge_fits_at M nodes es k ≡ edge_fits_from M nodes es a i
    here = ap (edge_fits_at M nodes es) w.stands

    pub walk-next : {next : ℕ} → edge_end M nodes es k ≡ Some next → Passed M nodes es a (i + 1) next
    unfolding edge_end edge_after
    walk-next e =
        let h = some-told (edge_fits_at M nodes es k) e in
        record {
          scanned = scan-more _ i w.scanned (sym here ∙ h.0);
          stands = rw add-one (sym h.1 ∙ ap (λ (x : ℕ). x + edge_size M es x) w.stands);
        }

    pub walk-found : {n : ℕ} → i < n → edge_end M nodes es k ≡ None → Err i ≡ edges_end M nodes es a n
    unfolding edge_end edges_end
    walk-found {n} l e =
        let q = scan-stop (edge_fits_from M nodes es a) i n w.scanned (sym here ∙ none-told (edge_fits_at M nodes es k) _ e) l in
        rw (q, ne_eqb i n (λ h. omega arith)) refl

    pub walk-over : {n : ℕ} → i ≡ n → Ok k ≡ edges_end M nodes es a n
    unfolding edges_end
    walk-over q = rw (← q, w.scanned, eq-eqb i i refl, w.stands) refl

-- ---- the nodes
module _ (M : Model) (g : List ℕ) where
  edges-of : (i : ℕ) → i < node_count M g
      → edges_fit M (simulation_of M g) i ≡ all (edge_fits_from M (node_count M g) (body g 1) (starts_at M g i)) (node_field M g i 4)
  unfolding edges_fit edge_fits edge_at edge_fits_at
  edges-of i l = simp (lt-ltb i (node_count M g) l)

  edges-last : edges_fit M (simulation_of M g) (node_count M g) ≡ eqb (starts_at M g (node_count M g)) (length (body g 1))
  unfolding edges_fit
  edges-last = simp (le-ltb (node_count M g) (node_count M g) (le_refl _))

  -- The walk has passed i nodes, and stands at k.
  pub record Reached (i k : ℕ) : Type 0 where
    pub scanned : first_bad (edges_fit M (simulation_of M g)) i ≡ i
    pub stands : k ≡ starts_at M g i

  pub reach-start : Reached 0 0
  unfolding edges_start
  reach-start = record { scanned = scan-none _; stands = refl }

-- Node i has `count` edges, and the walk over them is from k.
module _ (M : Model) (g : List ℕ) {es : List ℕ} {n i k count : ℕ} (pe : es ≡ body g 1) (pn : n ≡ node_count M g) (r : Reached M g i k)
    (l : i < n) (pc : count ≡ node_field M g i 4) where
  here-fits : all (edge_fits_from M n es k) count ≡ edges_fit M (simulation_of M g) i
  here-fits =
      (λ t. all (edge_fits_from M (pn t) (pe t) (r.stands t)) (pc t))
      ∙ sym (edges-of M g i (omega arith))

  pub reach-found : {bad : ℕ} → edges_end M n es k count ≡ Err bad → i ≡ first_bad (edges_fit M (simulation_of M g)) (node_count M g + 1)
  unfolding edges_end
  reach-found e =
      sym (scan-stop _ i (node_count M g + 1) r.scanned (sym here-fits ∙ err-told (all (edge_fits_from M n es k) count) _ _ e) (omega arith))

  pub reach-next : {next : ℕ} → edges_end M n es k count ≡ Ok next → Reached M g (i + 1) next
  unfolding edges_end edges_start
  reach-next e =
      let h = ok-told (all (edge_fits_from M n es k) count) _ e in
      record {
        scanned = scan-more _ i r.scanned (sym here-fits ∙ h.0);
        stands = rw add-one (sym h.1 ∙ (λ t. edge_after M (pe t) (r.stands t) (pc t)));
      }

-- All nodes are passed: the edges end at the body's end, or bytes are over.
module _ (M : Model) (g : List ℕ) {es : List ℕ} {n i k : ℕ} (pe : es ≡ body g 1) (pn : n ≡ node_count M g) (h : Reached M g i k) (q : i ≡ n) where
  r : Reached M g n k
  r = subst (λ (x : ℕ). Reached M g x k) q h

  last_fits : eqb k (length es) ≡ edges_fit M (simulation_of M g) n
  last_fits =
      (λ t. eqb ((r.stands ∙ ap (starts_at M g) pn) t) (length (pe t))) ∙ sym (edges-last M g) ∙ ap (edges_fit M (simulation_of M g)) (sym pn)

  pub reach-over : k ≡ length es → n + 1 ≡ first_bad (edges_fit M (simulation_of M g)) (node_count M g + 1)
  reach-over e = sym (scan-more _ n r.scanned (sym last_fits ∙ eq-eqb k (length es) e)) ∙ ap (λ (x : ℕ). first_bad (edges_fit M (simulation_of M g)) (x + 1)) pn

  pub reach-left : (k ≡ length es → ⊥) → n ≡ first_bad (edges_fit M (simulation_of M g)) (node_count M g + 1)
  reach-left f =
      sym (scan-stop _ n (n + 1) r.scanned (sym last_fits ∙ ne_eqb k (length es) f) (omega arith)) ∙ ap (λ (x : ℕ). first_bad (edges_fit M (simulation_of M g)) (x + 1)) pn
