-- Document 02, 2.6: what the builder keeps equals what counting the written nodes and walking the written edges give.
-- Assumes nothing.
use Prim.Native.Nat.{ℕ, ◌<◌, ◌≤◌}
use mathlib.Core.Path.{◌≡◌, refl, sym, ◌∙◌}
use mathlib.Core.List.{List}
use native.Mathlib.Omega.{arith}
use lib.Dec.{eqb}
use Rattle.mdp.specs.Kinds.{Kind}
use Rattle.mdp.proofs.SumLaws.{sum-eq}
use Rattle.folder.specs.Pick.{pick}
use Rattle.folder.specs.Contents.{body}
use Rattle.model.specs.Model.{Model, model_of}
use Rattle.model.specs.Valid.{Valid}
use Rattle.model.proofs.Limits.{limits}
use Rattle.graph.specs.Limits.{most_bytes, most_nodes, units}
use Rattle.graph.specs.Simulation.{edges_start, node_field, simulation_of}
use Rattle.graph.specs.Walks.{starts_at}
use Rattle.graph.specs.Table.{kind_count}
use Rattle.building.specs.Building.{Building, kind_number, as_simulation}
use Rattle.building.specs.Length.{edges_before, graph_length, if_waiting, waiting_count}
use Rattle.building.specs.Moves.{Limit}
use Rattle.building.specs.Kept.{Kept}
use Rattle.building.specs.Counts.{Counts}
use Rattle.written.specs.Bytes.{graph_bytes}
use Rattle.written.proofs.ReadBack.{Fitting, edge-bytes, start_is, edges-back, reads-back}
use Rattle.written.proofs.Transfer.{counts_same}
use Rattle.written.proofs.LengthLaws.{edges-place}
use Rattle.written.proofs.Fits.{kept-fitting}

waiting-is : (κ : Kind) → pick (eqb (kind_number κ) 0) 1 0 ≡ if_waiting κ
waiting-is Kind.waiting = refl
waiting-is Kind.expanded = refl
waiting-is Kind.covered = refl
waiting-is Kind.target = refl

-- Counting the nodes of a graph while it is built.
pub waiting-nodes : (M : Model) (B : Building) (value : ℕ → ℕ) → kind_count (as_simulation M B value) 0 ≡ waiting_count B
unfolding waiting_count
waiting-nodes M B value = sum-eq B.nodes (λ i _. pick (eqb (kind_number (B.kind i)) 0) 1 0) (λ i _. if_waiting (B.kind i)) (λ i _. waiting-is (B.kind i))

module _ (M : Model) (B : Building) (value : ℕ → ℕ) (F : Fitting M (as_simulation M B value)) where
  abbrev g : List ℕ
  g = graph_bytes M (as_simulation M B value)

  pub edges-walked : (n : ℕ) → n ≤ B.nodes → edges_start M (body g 1) (λ i. node_field M g i 4) n ≡ edges_before M B n
  edges-walked n l =
      rw (edge-bytes M (as_simulation M B value) F) (start_is M (as_simulation M B value) F (λ i. node_field M g i 4) (edges-back M (as_simulation M B value) F) n l ∙ edges-place M B value n)

  pub waiting-counted : kind_count (simulation_of M g) 0 ≡ waiting_count B
  waiting-counted = counts_same M (as_simulation M B value) (simulation_of M g) (reads-back M (as_simulation M B value) F) 0 ∙ waiting-nodes M B value

-- After every move: what is kept equals what counting the nodes and walking the edges give, of the bytes that the graph has
-- then.
module _ (m : List ℕ) (valid : Valid m) (P : Limit) (few : P.most ≤ most_nodes) (B : Building) (K : Kept (model_of m) P.most B) (short : graph_length (model_of m) B ≤ most_bytes) (value : ℕ → ℕ) (small : (n : ℕ) → value n ≤ units) where
  abbrev bytes : List ℕ
  bytes = graph_bytes (model_of m) (as_simulation (model_of m) B value)

  fits : Fitting (model_of m) (as_simulation (model_of m) B value)
  fits = kept-fitting (model_of m) valid.model (limits valid.folder).variables (limits valid.folder).commands P few B K short value small

  pub counts-written : {waiting : ℕ} {begin : ℕ → ℕ} → Counts (model_of m) B waiting begin
      → (waiting ≡ kind_count (simulation_of (model_of m) (graph_bytes (model_of m) (as_simulation (model_of m) B value))) 0)
      × ((n : ℕ) → n < B.nodes → begin n ≡ starts_at (model_of m) (graph_bytes (model_of m) (as_simulation (model_of m) B value)) n)
  counts-written C = (
    C.counted ∙ sym (waiting-counted (model_of m) B value fits),
    λ n l. C.walked n l ∙ sym (edges-walked (model_of m) B value fits n (omega arith)),
  )
