-- Document 02, 2.5: a simulation graph as a graph folder's bytes.
-- Assumes nothing.
use Rattle.std.specs.Prelude.{ℕ, zero, suc, ◌/◌, ◌%◌, List, [], ◌∷◌, ◌++◌}
use Rattle.folder.specs.Fields.{field_limit}
use Rattle.folder.specs.Tab.{tab}
use Rattle.model.specs.Model.{Model}
use Rattle.model.specs.Pedal.{fields, folder_of}
use Rattle.graph.specs.Simulation.{Simulation}
use Rattle.put.specs.Put.{unsigned}

-- The lists f 0 to f (n − 1), one after the other.
unfoldable pub chain : ℕ → (ℕ → List ℕ) → List ℕ
chain zero f = []
chain (suc n) f = chain n f ++ f n

module _ (M : Model) (G : Simulation) where
  -- The 2-byte fields of node n, of its edge e, and of all its edges. (The value has two fields.)
  abbrev pub node_fields : ℕ → List ℕ
  node_fields n =
      G.kind n
      ∷ G.cover n
      ∷ G.value n % field_limit
      ∷ G.value n / field_limit
      ∷ G.edges n
      ∷ G.tracked n
      ∷ (tab M.variables (λ v. unsigned (G.concrete n v)) ++ tab M.variables (λ v. unsigned (G.label n v)))

  abbrev pub edge_fields : ℕ → ℕ → List ℕ
  edge_fields n e = G.command n e ∷ tab (M.branches (G.command n e)) (G.successor n e)

  abbrev pub edges_fields : ℕ → List ℕ
  edges_fields n = chain (G.edges n) (edge_fields n)

  -- The two bodies' fields, and the folder.
  abbrev pub node_body : List ℕ
  node_body = chain G.nodes node_fields

  abbrev pub edge_body : List ℕ
  edge_body = chain G.nodes edges_fields

  unfoldable pub graph_bytes : List ℕ
  graph_bytes = folder_of (fields node_body ∷ fields edge_body ∷ [])
