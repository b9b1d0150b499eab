-- Document 02, 2.5: what the label of a node wants, by the records that hold the graph while it is built; and what reading it
-- stands on.
-- Assumes nothing.
use Rattle.std.specs.Prelude.{ℕ, ◌+◌, ◌<◌, ◌≤◌, ◌≡◌, true, List, length, ℤ, Option, None}
use Rattle.expressions.specs.Limits.{most_expressions}
use Rattle.expressions.specs.Reading.{has_bit}
use Rattle.expressions.specs.States.{number_told, truth_told}
use Rattle.mentions.specs.Masked.{Masked}
use Rattle.states.specs.Stated.{StateRow}
use Rattle.states.specs.Read.{Flagged}
use Rattle.model.specs.Model.{model_of, first_record}
use Rattle.building.specs.First.{◌orelse◌, given, first}
use Rattle.building.specs.Building.{enabled, before, births}
use Rattle.building.specs.Moves.{wanted_t, wanted_n}
use Rattle.folder.specs.Contents.{field}
use Rattle.graph.specs.Simulation.{node_size}
use Rattle.held.specs.Held.{child_field, read_field, tracked_field, node_in, state_in, set_in, label_in, NodeHere}

-- The row has what each entry mentions.
abbrev pub MasksOf : List ℕ → List ℕ → Type 0
MasksOf m masks = Masked (model_of m).entries (model_of m).entries.count masks

-- All that node x tracks is marked as read by its parent.
abbrev pub IsRead : ℕ → List ℕ → ℕ → Type 0
IsRead vars nb x = field (node_size vars) nb x tracked_field ≡ field (node_size vars) nb x read_field

module _ (m nb : List ℕ) (n : ℕ) where
  -- What entry e wants in the label of node n, as a truth and as a number.
  abbrev pub truth_wants_in : ℕ → Option ℕ
  truth_wants_in e = wanted_t (truth_told (model_of m).entries (label_in m nb n) e)

  abbrev pub number_wants_in : ℕ → Option ℕ
  number_wants_in e = wanted_n (number_told (model_of m).entries (label_in m nb n) e)

  -- 19: the guards by command.
  unfoldable pub guards_in : Option ℕ
  guards_in = first (model_of m).commands (λ c. truth_wants_in ((model_of m).guard c))

  -- 19 of an expanded node.
  abbrev pub own_in : Option ℕ
  own_in = guards_in orelse truth_wants_in (model_of m).target

  -- 21: of branch record r and the child x that it gives, the variables that x tracks, upward.
  unfoldable pub result_in : ℕ → ℕ → Option ℕ
  result_in x r = first (model_of m).variables (λ v. given (has_bit (set_in m nb x) v) (number_wants_in ((model_of m).assigned r v)))

  abbrev pub child_in : ℕ → ℕ → ℕ
  child_in c b = node_in m nb n child_field + before (model_of m) (state_in m nb n) c + b

  abbrev pub branches_in : ℕ → Option ℕ
  branches_in c = first ((model_of m).branches c) (λ b. result_in (child_in c b) (first_record (model_of m) c + b))

  unfoldable pub results_in : Option ℕ
  results_in = first (model_of m).commands (λ c. given (enabled (model_of m) (state_in m nb n) c) (branches_in c))

  -- Where the children end.
  abbrev pub children_end : ℕ
  children_end = node_in m nb n child_field + births (model_of m) (state_in m nb n)

  -- What the child x, by branch record r, has marked as read by its parent n does read known.
  pub record ReadBy (x r : ℕ) : Type 0 where
    pub is : (v : ℕ) → v < (model_of m).variables → has_bit (node_in m nb x read_field) v ≡ true → number_wants_in ((model_of m).assigned r v) ≡ None

  -- So of every child.
  pub record AllRead : Type 0 where
    pub each : (c : ℕ) → c < (model_of m).commands → enabled (model_of m) (state_in m nb n) c ≡ true → (b : ℕ) → b < (model_of m).branches c
        → ReadBy (child_in c b) (first_record (model_of m) c + b)

  -- Rows that are filled for the node: `known` flags what reads known in its label, `state` has what entries are in its state.
  abbrev pub LabelFlagged : List ℕ → Type 0
  LabelFlagged known = Flagged (model_of m).entries (label_in m nb n) known

  abbrev pub StateSettled : List ℤ → Type 0
  StateSettled state = StateRow (model_of m).entries (state_in m nb n) state

  pub record NodeRead (masks known : List ℕ) (state : List ℤ) : Type 0 where
    pub node : NodeHere m nb n
    pub masked : MasksOf m masks
    pub flagged : LabelFlagged known
    pub stated : StateSettled state
    pub known-long : most_expressions ≤ length known
    pub state-long : most_expressions ≤ length state
