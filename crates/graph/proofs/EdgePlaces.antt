-- Walks over the edges of a graph whose rows 12 to 17 hold: where the cursor goes, and what stands there.
-- Assumes nothing.
use Prim.Native.Nat.{ℕ, zero, suc, ◌+◌, ◌≤◌, ◌<◌, zero-le}
use native.Mathlib.Numerals.{add-one}
use native.Mathlib.Omega.{arith}
use mathlib.Core.Path.{◌≡◌, refl, sym, ap, ◌∙◌}
use mathlib.Core.List.{List}
use lib.ListN.{length}
use borrow.Author.Tests.{leb-true}
use Rattle.folder.specs.Contents.{body}
use Rattle.folder.proofs.ContentsLaws.{body-short}
use Rattle.model.specs.Model.{Model}
use Rattle.graph.specs.Limits.{most_bytes}
use Rattle.graph.specs.Simulation.{edge_size, edge_after, edges_start, edge_whole, node_field, edge_at, node_count}
use Rattle.graph.specs.Valid.{RowsRight}
use Rattle.graph.specs.Walks.{starts_at}

-- ---- the cursor, of any graph
module _ (M : Model) (g : List ℕ) where
  -- Node 0's edges start at 0.
  pub place_none : starts_at M g 0 ≡ 0
  unfolding edges_start
  place_none = refl

  -- A node's first edge stands where its edges start; each next one, after the edge before; and after its last edge the
  -- next node's start.
  module _ (n : ℕ) {k : ℕ} where
    pub place-start : k ≡ starts_at M g n → k ≡ edge_at M g n 0
    unfolding edge_at edge_after
    place-start p = p

    pub place-next : (e : ℕ) {es : List ℕ} {size : ℕ} → es ≡ body g 1 → k ≡ edge_at M g n e → size ≡ edge_size M es k → k + size ≡ edge_at M g n (e + 1)
    unfolding edge_at edge_after
    place-next e q p s = rw add-one ((λ t. k + s t) ∙ (λ t. p t + edge_size M (q t) (p t)))

    pub place-over : k ≡ edge_at M g n (node_field M g n 4) → k ≡ starts_at M g (n + 1)
    unfolding edge_at edges_start
    place-over p = rw add-one p

    -- A node without edges leaves the cursor where it is.
    pub place-skip : node_field M g n 4 ≡ 0 → k ≡ starts_at M g n → k ≡ starts_at M g (n + 1)
    place-skip z p = place-over (place-start p ∙ ap (edge_at M g n) (sym z))

-- ---- what stands there
module _ {M : Model} {g : List ℕ} (rows : RowsRight M g) where
  ends : (n e : ℕ) → n < node_count M g → e < node_field M g n 4 → edge_at M g n e + edge_size M (body g 1) (edge_at M g n e) ≤ length (body g 1)
  unfolding edge_whole
  ends n e l k = leb-true _ _ (rows.content.edges n l e k).whole

  -- No cursor passes the body's end, which is near.
  from_start : (n e : ℕ) → n < node_count M g → e ≤ node_field M g n 4 → starts_at M g n ≤ length (body g 1) → edge_at M g n e ≤ length (body g 1)
  from_start n zero l h s = rw (sym (place-start M g n refl)) s
  from_start n (suc e) l h s = rw (sym (add-one e), sym (place-next M g n e refl refl refl)) (ends n e l (omega arith))

  pub start-within : (n : ℕ) → n ≤ node_count M g → starts_at M g n ≤ length (body g 1)
  start-within zero l = rw (place_none M g) zero-le
  start-within (suc n) l =
      rw (sym (add-one n), sym (place-over M g n refl)) (from_start n (node_field M g n 4) (omega arith) (omega arith) (start-within n (omega arith)))

  pub place-within : (n e : ℕ) → n < node_count M g → e ≤ node_field M g n 4 → edge_at M g n e ≤ length (body g 1)
  place-within n e l h = from_start n e l h (start-within n (omega arith))

  pub edges-short : length (body g 1) ≤ most_bytes
  edges-short = omega (arith, body-short g 1, rows.folder.short)
