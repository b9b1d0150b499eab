-- An edge's weighted sum from a table of weights, and the walk over a node's edges, over the bytes.
-- Assumes nothing.
use Rattle.std.specs.Prelude.{ℕ, ◌+◌, ◌-◌, ◌*◌, ◌≤◌, ◌<◌, List, [], length, get_or}
use Rattle.mdp.specs.Sums.{sum, greatest}
use Rattle.folder.specs.Fields.{field_limit, field4_limit}
use Rattle.folder.specs.Contents.{field}
use Rattle.model.specs.Limits.{most_branches}
use Rattle.model.specs.Model.{model_in}
use Rattle.graph.specs.Simulation.{edge_bytes, command_in, successor_in, edge_after}

-- What a weight times an element is at most: the one has 2 bytes, the other 4.
abbrev pub most_product : ℕ
most_product = (field_limit - 1) * (field4_limit - 1)

-- The sum of weight × the successor's element of `row`, over the branches of the edge at position k of the edges `eb`;
-- its `count` weights stand from `first` on.
unfoldable pub sum_at : List ℕ → List ℕ → List ℕ → ℕ → ℕ → ℕ → ℕ
sum_at weights row eb first count k = sum count (λ b _. get_or weights (first + b) 0 * get_or row (successor_in eb k b) 0)

-- The edge at k is whole, its weights are in the table and fit 16 bits, and its successors are nodes.
pub record EdgeFits (weights : List ℕ) (nodes : ℕ) (eb : List ℕ) (first count k : ℕ) : Type 0 where
  pub few : count ≤ most_branches
  pub records : first + count ≤ length weights
  pub whole : k + edge_bytes count ≤ length eb
  pub light : (b : ℕ) → b < count → get_or weights (first + b) 0 < field_limit
  pub known : (b : ℕ) → b < count → successor_in eb k b < nodes

-- The branch count of command c, in the body `cs` of the commands.
abbrev pub branches_in : List ℕ → ℕ → ℕ
branches_in cs c = field 4 cs c 1

-- The walk over edges.
module _ (cs eb : List ℕ) where
  -- Where the edge that is j edges after the one at k stands: no other body of the model counts.
  abbrev pub after : ℕ → ℕ → ℕ
  after = edge_after (model_in [] [] [] cs []) eb

  module _ (weights firsts : List ℕ) where
    -- The edge at k fits, and its command has a record and a first branch record.
    pub record EdgeReady (nodes k : ℕ) : Type 0 where
      pub command : command_in eb k < length firsts
      pub listed : 4 * command_in eb k + 4 ≤ length cs
      pub fits : EdgeFits weights nodes eb (get_or firsts (command_in eb k) 0) (branches_in cs (command_in eb k)) k

    -- The next `count` edges from k on are ready.
    pub record EdgesReady (nodes k count : ℕ) : Type 0 where
      pub each : (e : ℕ) → e < count → EdgeReady nodes (after k e)

    -- The sum of the edge at k.
    unfoldable pub sum_of : List ℕ → ℕ → ℕ
    sum_of row k = sum_at weights row eb (get_or firsts (command_in eb k) 0) (branches_in cs (command_in eb k)) k

    -- The greatest sum over `count` edges from k on.
    unfoldable pub best_of : List ℕ → ℕ → ℕ → ℕ
    best_of row k count = greatest count (λ e _. sum_of row (after k e))
