-- The tables that sums are made from, and the figure that a sum gives.
-- Assumes nothing.
use Rattle.std.specs.Prelude.{ℕ, ◌≤◌, ◌<◌, ◌≡◌, List, length, get_or, eqb}
use Rattle.mdp.specs.Sums.{sum, rounded_up}
use Rattle.folder.specs.Fields.{field_limit}
use Rattle.folder.specs.Pick.{pick}
use Rattle.folder.specs.Contents.{field}
use Rattle.model.specs.Model.{Model, first_record}
use Rattle.graph.specs.Limits.{units}
use Rattle.sums.specs.Edges.{branches_in}

-- The tables: each branch record's weight, and each command's first branch record.
pub record Tables (M : Model) (weights firsts : List ℕ) : Type 0 where
  pub weighed : (r : ℕ) → r < M.records → get_or weights r 0 ≡ M.weight r
  pub light : (r : ℕ) → r < M.records → get_or weights r 0 < field_limit
  pub placed : (c : ℕ) → c < M.commands → get_or firsts c 0 ≡ first_record M c
  pub weights-long : M.records ≤ length weights
  pub firsts-long : M.commands ≤ length firsts

-- The weights of a body of branch records, and each command's first branch record from the body of commands.
abbrev pub weight_in : ℕ → List ℕ → ℕ → ℕ
weight_in size bs r = field size bs r 0

abbrev pub first_in : List ℕ → ℕ → ℕ
first_in cs c = sum c (λ i _. branches_in cs i)

-- The first n values of f fit 16 bits.
pub record Light (n : ℕ) (f : ℕ → ℕ) : Type 0 where
  pub fits : (r : ℕ) → r < n → f r < field_limit

-- A row that holds a round of so many nodes: no figure is more than certainty.
pub record Round (nodes : ℕ) (row : List ℕ) : Type 0 where
  pub long : nodes ≤ length row
  pub small : (n : ℕ) → n < nodes → get_or row n 0 ≤ units

-- The figure of a node by its kind, unless it is covered: `best` is the greatest sum over its edges.
unfoldable pub figure_by : ℕ → ℕ → ℕ → ℕ
figure_by kind best d = pick (eqb kind 1) (rounded_up best d) (pick (eqb kind 2) 0 units)
