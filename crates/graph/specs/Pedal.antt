-- Document 01's pedal example: its graph folder.
-- Assumes nothing.
use Rattle.std.specs.Prelude.{ℕ, List, [], ◌∷◌, ◌++◌}
use Rattle.model.specs.Pedal.{four, fields, folder_of, joined}

-- A node's record: kind, cover, value, edge count, tracked set, concrete values and label values.
abbrev pub node : ℕ → ℕ → ℕ → ℕ → ℕ → List ℕ → List ℕ → List ℕ
node kind cover value edges tracked concrete label =
    fields (kind ∷ cover ∷ []) ++ four value ++ fields (edges ∷ tracked ∷ []) ++ fields concrete ++ fields label

-- A graph folder of these nodes' records and these fields of edges.
abbrev pub graph_folder : List (List ℕ) → List ℕ → List ℕ
graph_folder nodes edges = folder_of (joined nodes ∷ fields edges ∷ [])

-- All nodes track a alone.
abbrev pub pedal_nodes : List (List ℕ)
pedal_nodes =
    node 1 0 10000000 2 1 (0 ∷ 0 ∷ []) (0 ∷ 0 ∷ [])
    ∷ node 1 0 0 0 1 (3 ∷ 0 ∷ []) (3 ∷ 0 ∷ [])
    ∷ node 1 0 100000000 1 1 (1 ∷ 0 ∷ []) (1 ∷ 0 ∷ [])
    ∷ node 2 0 10000000 0 1 (0 ∷ 1 ∷ []) (0 ∷ 0 ∷ [])
    ∷ node 2 1 0 0 1 (3 ∷ 0 ∷ []) (3 ∷ 0 ∷ [])
    ∷ node 3 0 1000000000 0 1 (2 ∷ 0 ∷ []) (2 ∷ 0 ∷ [])
    ∷ []

-- Node 0: command 0 to 1 and 2, command 1 to 3. Node 2: command 0 to 4 and 5.
abbrev pub pedal_edges : List ℕ
pedal_edges = 0 ∷ 1 ∷ 2 ∷ 1 ∷ 3 ∷ 0 ∷ 4 ∷ 5 ∷ []

abbrev pub pedal_graph : List ℕ
pedal_graph = graph_folder pedal_nodes pedal_edges
