-- What the rules of a node stand on: a node of a graph that is read so far, and rows that were filled for it.
-- Assumes nothing.
use Rattle.std.specs.Prelude.{ℕ, ◌<◌, ◌≤◌, ◌≡◌, true, List, length, get_or, ℤ}
use Rattle.mentions.specs.Masked.{Masked}
use Rattle.states.specs.Stated.{HasFlagged, StateRow}
use Rattle.states.specs.Read.{Flagged, Widened}
use Rattle.model.specs.Limits.{most_expressions}
use Rattle.model.specs.Model.{model_of, first_record}
use Rattle.model.specs.Valid.{Valid}
use Rattle.graph.specs.Simulation.{node_count, simulation_of}
use Rattle.graph.specs.Labels.{label_of, concrete_state}
use Rattle.graph.specs.Rules.{A1, enabled_in}
use Rattle.graph.specs.Valid.{RowsRight}
use Rattle.expand.specs.Tests.{holds_at}

-- The row has what each entry mentions.
abbrev pub MasksOf : List ℕ → List ℕ → Type 0
MasksOf m masks = Masked (model_of m).entries (model_of m).entries.count masks

module _ (m g : List ℕ) (n : ℕ) where
  -- The model folder m is accepted, rows 12 to 17 hold of the graph folder g, and n is one of its nodes.
  pub record NodeOf : Type 0 where
    pub model : Valid m
    pub rows : RowsRight (model_of m) g
    pub there : n < node_count (model_of m) g

  -- The row flags entries that read known in the node's label; the others are not known three ways.
  abbrev pub LabelFlagged : List ℕ → Type 0
  LabelFlagged known = Flagged (model_of m).entries (label_of (model_of m) (simulation_of (model_of m) g) n) known

  -- It is as sound after entry e was asked, none is lowered, and e is flagged if it reads known, and only then.
  abbrev pub LabelWidened : ℕ → List ℕ → List ℕ → Type 0
  LabelWidened e before after = Widened (model_of m).entries (label_of (model_of m) (simulation_of (model_of m) g) n) e before after

  -- The row has what the flagged entries are in the node's concrete state.
  abbrev pub FlaggedSettled : List ℕ → List ℤ → Type 0
  FlaggedSettled known state = HasFlagged (model_of m).entries (concrete_state (model_of m) (simulation_of (model_of m) g) n) state known

  -- What each entry is there.
  abbrev pub StateSettled : List ℤ → Type 0
  StateSettled state = StateRow (model_of m).entries (concrete_state (model_of m) (simulation_of (model_of m) g) n) state

  -- Both rows, with a place for each expression that a model may have.
  pub record NodeRead (known : List ℕ) (state : List ℤ) : Type 0 where
    pub flagged : LabelFlagged known
    pub stated : StateSettled state
    pub known-long : most_expressions ≤ length known
    pub state-long : most_expressions ≤ length state

  -- Entries can be asked in the node's label: it is right of the concrete state, and the rows are filled.
  pub record Askable (masks known : List ℕ) (state : List ℤ) : Type 0 where
    pub node : NodeOf
    pub kept : A1 (model_of m) (simulation_of (model_of m) g) n ≡ true
    pub masked : MasksOf m masks
    pub read : NodeRead known state

  -- Each guard reads true exactly where it holds in the state.
  pub record GuardsSettled (state : List ℤ) : Type 0 where
    pub is : (c : ℕ) → c < (model_of m).commands → holds_at state ((model_of m).guard c) ≡ enabled_in (model_of m) (simulation_of (model_of m) g) n c

-- The rows have a place for each expression that a model may have.
abbrev pub RowsLong : List ℕ → List ℤ → Type 0
RowsLong known state = (most_expressions ≤ length known) × (most_expressions ≤ length state)

-- The row has each command's first branch record.
pub record FirstsOf (m : List ℕ) (firsts : List ℕ) : Type 0 where
  pub long : (model_of m).commands ≤ length firsts
  pub placed : (c : ℕ) → c < (model_of m).commands → get_or firsts c 0 ≡ first_record (model_of m) c
