-- Document 01, "Models" and "Chances as whole numbers": the MDP that a model is.
-- Assumes nothing.
use Rattle.std.specs.Prelude.{ℕ, ◌+◌, ◌<◌, ◌≡◌, length, ◌≤ℤ◌}
use Rattle.mdp.specs.Mdp.{Mdp}
use Rattle.folder.specs.Tab.{tab}
use Rattle.expressions.specs.Meaning.{State, value_of, number_in, truth_in}
use Rattle.model.specs.Model.{Model, first_record}

module _ (M : Model) where
  -- A state of the model: one value per variable, each in its range.
  pub record InRange (s : State) : Type 0 where
    pub long : length s ≡ M.variables
    pub low : (v : ℕ) → v < M.variables → M.low v ≤ℤ value_of s v
    pub high : (v : ℕ) → v < M.variables → value_of s v ≤ℤ M.high v

  -- The state that branch b of command c gives in s. All its expressions read s.
  unfoldable pub next : ℕ → ℕ → State → State
  next c b s = tab M.variables (λ v. number_in M.entries s (M.assigned (first_record M c + b) v))

  abbrev pub initial_state : State
  initial_state = tab M.variables M.initial

  abbrev pub mdp : Mdp
  mdp = record {
    State = State;
    commands = M.commands;
    branches = M.branches;
    weight = λ c b. M.weight (first_record M c + b);
    total = M.total;
    enabled = λ c s. truth_in M.entries s (M.guard c);
    next = next;
    target = λ s. truth_in M.entries s M.target;
  }
