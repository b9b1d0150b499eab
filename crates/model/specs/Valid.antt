-- The folder and model rules, rows 1 to 11, in document 01's words. (Rules.antt has their tests.)
-- Assumes nothing.
use Rattle.std.specs.Prelude.{ℕ, ◌+◌, ◌%◌, ◌<◌, ◌≤◌, ◌≡◌, ◌≢◌, true, List, length, ℤ, ◌≤ℤ◌}
use Rattle.mdp.specs.Sums.{sum}
use Rattle.folder.specs.Contents.{body, EntryRight as ContentsRight}
use Rattle.expressions.specs.Meaning.{State, value_of, truth_in}
use Rattle.expressions.specs.Ranges.{range_of}
use Rattle.expressions.specs.Right.{IsNumber, IsTruth, EntryRight, RangeRight, Inside}
use Rattle.model.specs.Limits.{least_bytes, most_bytes, least_bound, most_bound, most_branches}
use Rattle.model.specs.Layout.{bodies, record_size, record_count, most_of}
use Rattle.model.specs.Model.{Model, model_of, bound, first_record}

-- Row 3: body e is whole records, at least one and at most as many as it may have.
pub record RecordsRight (m : List ℕ) (e : ℕ) : Type 0 where
  pub whole : length (body m e) % record_size m e ≡ 0
  pub some : 1 ≤ record_count m e
  pub few : record_count m e ≤ most_of e

module _ (M : Model) where
  -- Row 4: bounds that do not cross, within −30,000 to 30,000, and the initial value within them.
  pub record VariableRight (v : ℕ) : Type 0 where
    pub ordered : M.low v ≤ℤ M.high v
    pub least : least_bound ≤ℤ M.low v
    pub most : M.high v ≤ℤ most_bound
    pub initial-low : M.low v ≤ℤ M.initial v
    pub initial-high : M.initial v ≤ℤ M.high v

  -- Row 8: a guard that is a truth, and 1 to 16 branches.
  pub record CommandRight (c : ℕ) : Type 0 where
    pub guard : IsTruth M.entries (M.guard c)
    pub some : 1 ≤ M.branches c
    pub few : M.branches c ≤ most_branches

  -- Row 10: a weight that is not 0, and for each variable a number whose range stays in the variable's.
  pub record BranchRight (r : ℕ) : Type 0 where
    pub weight : M.weight r ≢ 0
    pub number : (v : ℕ) → v < M.variables → IsNumber M.entries (M.assigned r v)
    pub range : (v : ℕ) → v < M.variables → Inside (range_of M.entries (bound M) (M.assigned r v)) (bound M v)

  -- Rows 4 to 11.
  pub record ModelRight : Type 0 where
    pub variables : (v : ℕ) → v < M.variables → VariableRight v
    pub entries : (e : ℕ) → e < M.entries.count → EntryRight M.entries M.variables e
    pub ranges : (e : ℕ) → e < M.entries.count → RangeRight M.entries (bound M) e
    pub total : M.total ≢ 0
    pub target : IsTruth M.entries M.target
    pub commands : (c : ℕ) → c < M.commands → CommandRight c
    pub records : M.records ≡ first_record M M.commands
    pub branches : (r : ℕ) → r < M.records → BranchRight r
    pub weights : (c : ℕ) → c < M.commands → sum (M.branches c) (λ b _. M.weight (first_record M c + b)) ≡ M.total

-- Rows 1 to 3.
pub record FolderRight (m : List ℕ) : Type 0 where
  pub long : least_bytes ≤ length m
  pub short : length m ≤ most_bytes
  pub contents : (e : ℕ) → e < bodies → ContentsRight m bodies e
  pub records : (e : ℕ) → e < bodies → RecordsRight m e

-- All that the model check asks.
pub record Valid (m : List ℕ) : Type 0 where
  pub folder : FolderRight m
  pub model : ModelRight (model_of m)

-- Rows 29 to 33: one value per variable and room for the result, values in range, a command that is there and enabled,
-- and a branch of it.
pub record StepRight (M : Model) (s : State) (c b : ℕ) (result : List ℤ) : Type 0 where
  pub long : length s ≡ M.variables
  pub room : M.variables ≤ length result
  pub low : (v : ℕ) → v < M.variables → M.low v ≤ℤ value_of s v
  pub high : (v : ℕ) → v < M.variables → value_of s v ≤ℤ M.high v
  pub command : c < M.commands
  pub enabled : truth_in M.entries s (M.guard c) ≡ true
  pub branch : b < M.branches c
