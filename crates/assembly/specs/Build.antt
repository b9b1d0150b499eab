-- Document 02, 2.5: the call that builds. Row 35 after the model's, the answer, and the content of the lent slice.
-- Assumes nothing.
use Rattle.std.specs.Prelude.{ℕ, ◌+◌, ◌≤◌, min, Bool, List, [], ◌∷◌, ◌++◌, eqb, leb, length, Err, Ok, Result}
use Rattle.folder.specs.declared.Refusal.{Refusal}
use Rattle.folder.specs.Pick.{pick}
use Rattle.folder.specs.Table.{places, no_places, Row, row, outcome, Outcome}
use Rattle.model.specs.Model.{Model, model_of}
use Rattle.model.specs.Table.{model_rows}
use Rattle.graph.specs.Limits.{least_bytes, most_bytes, most_nodes}
use Rattle.graph.specs.Simulation.{Simulation, node_size}
use Rattle.graph.specs.Figures.{over}
use Rattle.building.specs.Moves.{Limit}
use Rattle.building.specs.Built.{built_graph}
use Rattle.written.specs.Bytes.{graph_bytes}

-- Rounds that may be asked for.
abbrev pub most_rounds : ℕ
most_rounds = 1000

-- Bytes of a graph of one node.
abbrev pub one_node : Model → ℕ
one_node M = least_bytes + node_size M.variables

-- Building ends when the next expansion would pass 4,096 nodes, the graph length limit or the lent slice.
abbrev pub limit_for : List ℕ → Limit
limit_for out = record { most = most_nodes; longest = min (length out) most_bytes }

-- The length of a graph that is built, or the refusal.
abbrev pub BuildAnswer : Type 0
BuildAnswer = Result ℕ Refusal

module _ (M : Model) (rounds : ℕ) (out : List ℕ) where
  -- Row 35: the slice can hold a graph of one node; at most 1,000 rounds.
  abbrev pub build_fits : ℕ → Bool
  build_fits p = pick (eqb p 0) (leb (one_node M) (length out)) (leb rounds most_rounds)

  abbrev pub build_rows : List Row
  build_rows = row 35 2 build_fits ∷ []

  -- The same as a rule.
  pub record BuildRight : Type 0 where
    pub room : one_node M ≤ length out
    pub few-rounds : rounds ≤ most_rounds

  -- The graph that is built, with its values after the rounds asked for, and its bytes.
  abbrev pub graph_for : Simulation
  graph_for = built_graph M (limit_for out) rounds

  abbrev pub bytes_for : List ℕ
  bytes_for = graph_bytes M graph_for

  -- What the call answers, and the slice that it leaves: the bytes stand first, later ones stay. Refused, all stay.
  abbrev pub answer_of : Outcome → BuildAnswer
  answer_of (Ok _) = Ok (length bytes_for)
  answer_of (Err f) = Err f

  abbrev pub slice_of : Outcome → List ℕ
  slice_of (Ok _) = over bytes_for out
  slice_of (Err f) = out

module _ (m : List ℕ) (rounds : ℕ) (out : List ℕ) where
  unfoldable pub build_outcome : Outcome
  build_outcome = outcome (model_rows m ++ build_rows (model_of m) rounds out)

  unfoldable pub build_answer : BuildAnswer
  build_answer = answer_of (model_of m) rounds out build_outcome

  unfoldable pub built_slice : List ℕ
  built_slice = slice_of (model_of m) rounds out build_outcome

-- Document 02's number of an answer, the two places returned with it, and the length. A refusal has none: 0.
abbrev pub build_number : BuildAnswer → ℕ
build_number (Ok n) = 0
build_number (Err f) = f.number

abbrev pub build_places : BuildAnswer → List ℕ
build_places (Ok n) = no_places
build_places (Err f) = places f

abbrev pub build_length : BuildAnswer → ℕ
build_length (Ok n) = n
build_length (Err f) = 0
