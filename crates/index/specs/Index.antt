-- Request 2.1: the index call. Row 34 after the graph's, the answer, and the content of each row.
-- Assumes nothing.
use Rattle.std.specs.Prelude.{ℕ, ◌/◌, ◌%◌, ◌≤◌, ◌≡◌, Bool, not, List, [], ◌∷◌, ◌++◌, length, leb, eqb, ℤ, Err, Ok, Result}
use Rattle.folder.specs.declared.Refusal.{Refusal}
use Rattle.folder.specs.Pick.{pick}
use Rattle.folder.specs.Tab.{fill}
use Rattle.folder.specs.Table.{places, no_places, Row, row, outcome, Outcome}
use Rattle.model.specs.Model.{Model, model_of}
use Rattle.model.specs.Table.{model_rows}
use Rattle.graph.specs.Limits.{slot_count}
use Rattle.graph.specs.Simulation.{Simulation, simulation_of}
use Rattle.graph.specs.Labels.{concrete_state}
use Rattle.graph.specs.Rules.{is_covered}
use Rattle.graph.specs.Table.{graph_rows}
use Rattle.graph.specs.Figures.{over}
use Rattle.slots.specs.Slots.{slots_after, lowest}
use Rattle.index.specs.Twins.{twins, state_at}

-- How many nodes are listed, or the refusal.
abbrev pub IndexAnswer : Type 0
IndexAnswer = Result ℕ Refusal

module _ (M : Model) (G : Simulation) where
  abbrev pub uncovered : ℕ → Bool
  uncovered n = not (is_covered G n)

  -- The slots once all nodes have entered.
  abbrev pub index_slots : List ℕ
  index_slots = slots_after (concrete_state M G) slot_count G.nodes

  -- How many states a batch has, and for each the lowest node with that concrete label.
  abbrev pub states : List ℤ → ℕ
  states batch = length batch / M.variables

  abbrev pub answer_to : List ℤ → ℕ → ℕ
  answer_to batch k = lowest (concrete_state M G) G.nodes (state_at M.variables batch k)

  -- Every uncovered node that is not the lowest uncovered one of its concrete label.
  abbrev pub shared : List ℕ
  shared = twins (concrete_state M G) uncovered G.nodes

  module _ (slots : List ℕ) (batch : List ℤ) (answers listing : List ℕ) where
    -- Row 34: the slots are as many as they must be; the batch is whole states; there is an answer for each, and room for each
    -- node in the listing.
    abbrev pub index_fits : ℕ → Bool
    index_fits p =
        pick (eqb p 0) (eqb (length slots) slot_count)
        (pick (eqb p 1) (eqb (length batch % M.variables) 0)
        (pick (eqb p 2) (leb (states batch) (length answers))
        (leb G.nodes (length listing))))

    abbrev pub index_rows : List Row
    index_rows = row 34 4 index_fits ∷ []

    -- The same as a rule.
    pub record IndexRight : Type 0 where
      pub slots-long : length slots ≡ slot_count
      pub batch-whole : length batch % M.variables ≡ 0
      pub answers-long : states batch ≤ length answers
      pub listing-long : G.nodes ≤ length listing

  -- The rows at exit, and how many nodes are listed. Refused, all rows stay.
  abbrev pub slots_of : Outcome → List ℕ → List ℕ
  slots_of (Ok _) slots = index_slots
  slots_of (Err f) slots = slots

  abbrev pub answers_of : Outcome → List ℤ → List ℕ → List ℕ
  answers_of (Ok _) batch answers = fill (states batch) (answer_to batch) answers
  answers_of (Err f) batch answers = answers

  abbrev pub listing_of : Outcome → List ℕ → List ℕ
  listing_of (Ok _) listing = over shared listing
  listing_of (Err f) listing = listing

  abbrev pub answer_of : Outcome → IndexAnswer
  answer_of (Ok _) = Ok (length shared)
  answer_of (Err f) = Err f

module _ (m g : List ℕ) (slots : List ℕ) (batch : List ℤ) (answers listing : List ℕ) where
  unfoldable pub index_outcome : Outcome
  index_outcome = outcome (model_rows m ++ graph_rows (model_of m) g ++ index_rows (model_of m) (simulation_of (model_of m) g) slots batch answers listing)

  -- What the call answers, and the rows that it leaves.
  unfoldable pub index_answer : IndexAnswer
  index_answer = answer_of (model_of m) (simulation_of (model_of m) g) index_outcome

  unfoldable pub slots_row : List ℕ
  slots_row = slots_of (model_of m) (simulation_of (model_of m) g) index_outcome slots

  unfoldable pub answers_row : List ℕ
  answers_row = answers_of (model_of m) (simulation_of (model_of m) g) index_outcome batch answers

  unfoldable pub listing_row : List ℕ
  listing_row = listing_of (model_of m) (simulation_of (model_of m) g) index_outcome listing

-- The number of an answer, its two places, and how many nodes are listed: 0 where there is none.
abbrev pub index_number : IndexAnswer → ℕ
index_number (Ok n) = 0
index_number (Err f) = f.number

abbrev pub index_places : IndexAnswer → List ℕ
index_places (Ok n) = no_places
index_places (Err f) = places f

abbrev pub index_listed : IndexAnswer → ℕ
index_listed (Ok n) = n
index_listed (Err f) = 0
