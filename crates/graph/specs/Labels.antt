-- Document 01, "Labels and the three-way reading", and document 02, 2.4: a node's concrete label and its abstract label, and
-- how entries read in the abstract one, by all its states and as document 01 had it.
-- Assumes nothing.
use Rattle.std.specs.Prelude.{ℕ, ◌<◌, ◌≡◌, Bool, true}
use Rattle.folder.specs.Tab.{tab}
use Rattle.expressions.specs.Meaning.{State, value_of}
use Rattle.expressions.specs.Reading.{has_bit, look_in}
use Rattle.expressions.specs.Combinations.{Label}
use Rattle.expressions.specs.States.{number_three, truth_three, number_read, truth_read, truth_told}
use Rattle.expressions.specs.ThreeWay.{Number, Truth, TruthReading}
use Rattle.model.specs.Model.{Model, bound}
use Rattle.model.specs.Chances.{InRange}
use Rattle.graph.specs.Simulation.{Simulation}

-- Node n tracks variable i.
abbrev pub tracks : Simulation → ℕ → ℕ → Bool
tracks G n i = has_bit (G.tracked n) i

-- How entries read, by node and entry: rules that read them can be said of any reading.
pub record Readings : Type 0 where
  pub number : ℕ → ℕ → Number
  pub truth : ℕ → ℕ → Truth

module _ (M : Model) (G : Simulation) where
  -- The label of node n, over the model's variables.
  abbrev pub label_of : ℕ → Label
  label_of n = record { variables = M.variables; bound = bound M; tracked = G.tracked n; values = tab M.variables (G.label n) }

  -- What it says of a variable.
  abbrev pub look : ℕ → ℕ → Number
  look n = look_in (G.tracked n) (tab M.variables (G.label n))

  -- The concrete label: a state.
  abbrev pub concrete_state : ℕ → State
  concrete_state n = tab M.variables (G.concrete n)

  -- How entry e reads in the label of node n.
  abbrev pub number_of : ℕ → ℕ → Number
  number_of n e = number_read M.entries (label_of n) e

  abbrev pub truth_of : ℕ → ℕ → Truth
  truth_of n e = truth_read M.entries (label_of n) e

  -- And where it reads unknown, with the variable that it lacks.
  abbrev pub reading_of : ℕ → ℕ → TruthReading
  reading_of n e = truth_told M.entries (label_of n) e

  -- These readings, which the rules speak of; and document 01's.
  abbrev pub by_states : Readings
  by_states = record { number = number_of; truth = truth_of }

  abbrev pub three_way : Readings
  three_way = record { number = λ n e. number_three M.entries (label_of n) e; truth = λ n e. truth_three M.entries (label_of n) e }

  -- The label of node n contains the states that agree with it on the tracked variables.
  pub record Contains (n : ℕ) (s : State) : Type 0 where
    pub state : InRange M s
    pub agrees : (v : ℕ) → v < M.variables → tracks G n v ≡ true → value_of s v ≡ G.label n v
