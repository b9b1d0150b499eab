-- Markov decision processes with whole-number weights, and document 01's "Chances as whole numbers".
-- Assumes nothing.
use Rattle.std.specs.Prelude.{ℕ, zero, suc, ◌*◌, ◌^◌, ◌<◌, ◌≡◌, Bool, true, if◌then◌else◌}
use Rattle.mdp.specs.Sums.{sum, greatest}

-- Document 01, "Models". Commands are numbered from 0, and so are the branches of a command. `total` is D: the chance
-- of a branch is its weight / D.
pub record Mdp : Type 1 where
  pub State : Type 0
  pub commands : ℕ
  pub branches : ℕ → ℕ
  pub weight : ℕ → ℕ → ℕ
  pub total : ℕ
  pub enabled : ℕ → State → Bool
  pub next : ℕ → ℕ → State → State
  pub target : State → Bool

-- What the model rules give: D is not 0, and the weights of each command total D.
pub record Fair (M : Mdp) : Type 0 where
  pub positive : 0 < M.total
  pub totals : (c : ℕ) → c < M.commands → sum (M.branches c) (λ b _. M.weight c b) ≡ M.total

module _ (M : Mdp) where
  open M use {State, commands, branches, weight, enabled, next, target, total as D}

  -- The sum, over the branches of command c taken in s, of weight × v of the next state.
  abbrev pub weighing : (State → ℕ) → ℕ → State → ℕ
  weighing v c s = sum (branches c) (λ b _. weight c b * v (next c b s))

  -- P(k, s): the best chance of reaching a target from s within k steps, out of D to the power k.
  unfoldable pub P : ℕ → State → ℕ
  P zero s = if target s then 1 else 0
  P (suc k) s = if target s then D ^ suc k else greatest commands (λ c _. if enabled c s then weighing (P k) c s else 0)

  -- A command enabled in s.
  pub record Enabled (s : State) : Type 0 where
    pub command : ℕ
    pub known : command < commands
    pub on : enabled command s ≡ true

  -- A history, by its last state: a state alone, or a history with a step added, which is an enabled command, one of its
  -- branches and the state that gives.
  pub data History : State → Type 0 where
    alone : (s : State) → History s
    step : {s : State} → History s → (e : Enabled s) (b : ℕ) → b < branches e.command → History (next e.command b s)

  -- What a strategy may give where the last state is s: a command enabled there, or stopping.
  pub data Choice (s : State) : Type 0 where
    stop : Choice s
    take : Enabled s → Choice s

  -- A strategy: any function from histories.
  abbrev pub Strategy : Type 0
  Strategy = (s : State) → History s → Choice s

  -- What a choice is worth: 0 if it stops, else the sum over the command's branches of weight × what follows the branch.
  abbrev pub worth : {s : State} → Choice s → ((e : Enabled s) (b : ℕ) → b < branches e.command → ℕ) → ℕ
  worth stop after = 0
  worth (take e) after = sum (branches e.command) (λ b l. weight e.command b * after e b l)

  -- Q(k, history) of a strategy, out of D to the power k.
  unfoldable pub Q : Strategy → ℕ → {s : State} → History s → ℕ
  Q σ zero {s} h = if target s then D ^ zero else 0
  Q σ (suc k) {s} h = if target s then D ^ suc k else worth (σ s h) (λ e b l. Q σ k (step h e b l))
