-- The bytes of a graph that is built: the contents, and two bodies whose lengths do not hang on the values.
-- Assumes nothing.
use Prim.Native.Nat.{ℕ, ◌+◌, ◌*◌, ◌<◌}
use mathlib.Core.Path.{◌≡◌, ap, ◌∙◌}
use mathlib.Core.List.{List, ◌++◌, append-nil}
use lib.ListN.{length, length-append}
use Rattle.model.specs.Model.{Model}
use Rattle.model.specs.Pedal.{fields}
use Rattle.graph.specs.Simulation.{node_size}
use Rattle.building.specs.Building.{Building, as_simulation}
use Rattle.building.specs.Length.{edges_before}
use Rattle.written.specs.Bytes.{node_fields, node_body, edge_body, graph_bytes}
use Rattle.written.proofs.FieldLaws.{chain_same}
use Rattle.written.proofs.LengthLaws.{edges-long}
use Rattle.written.proofs.ReadBack.{bytes-long}
use Rattle.assembly.specs.Stages.{contents_by, bodies_by}

module _ (M : Model) (B : Building) where
  abbrev pub nodes_long : ℕ
  nodes_long = node_size M.variables * B.nodes

  abbrev pub edges_long : ℕ
  edges_long = edges_before M B B.nodes

  module _ (value : ℕ → ℕ) where
    pub bodies-long : length (bodies_by M B value) ≡ nodes_long + edges_long
    unfolding bodies_by
    bodies-long =
        length-append (fields (node_body M (as_simulation M B value))) (fields (edge_body M (as_simulation M B value)))
        ∙ (λ i. bytes-long M (as_simulation M B value) i + edges-long M B value i)

    pub bytes-are : graph_bytes M (as_simulation M B value) ≡ contents_by nodes_long edges_long ++ bodies_by M B value
    unfolding graph_bytes bodies_by
    bytes-are = λ i.
        contents_by (bytes-long M (as_simulation M B value) i) (edges-long M B value i)
        ++ (fields (node_body M (as_simulation M B value)) ++ append-nil (fields (edge_body M (as_simulation M B value))) i)

  -- A record's fields with the value x.
  abbrev pub record_by : ℕ → ℕ → List ℕ
  record_by n x = node_fields M (as_simulation M B (λ _. x)) n

  -- Only values of nodes that are there count.
  pub bodies-same : (v w : ℕ → ℕ) → ((n : ℕ) → n < B.nodes → v n ≡ w n) → bodies_by M B v ≡ bodies_by M B w
  unfolding bodies_by
  bodies-same v w h =
      ap (λ (l : List ℕ). fields l ++ fields (edge_body M (as_simulation M B v)))
      (chain_same B.nodes (node_fields M (as_simulation M B v)) (node_fields M (as_simulation M B w)) (λ n l. ap (record_by n) (h n l)))
