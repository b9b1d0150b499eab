-- What the code holds while it answers a batch and lists nodes: the node body nb of a graph over so many variables.
-- Assumes nothing.
use Rattle.std.specs.Prelude.{ℕ, ◌≤◌, ◌<◌, ◌≡◌, Bool, true, not, List, length, get_or, eqb, ℤ}
use Rattle.folder.specs.Contents.{count_of, field}
use Rattle.model.specs.Limits.{most_variables}
use Rattle.graph.specs.Limits.{most_nodes}
use Rattle.graph.specs.Simulation.{node_size}
use Rattle.slots.specs.Slots.{is_new, slots_after, lowest}
use Rattle.slots.specs.Nodes.{label_in, Hashed}
use Rattle.index.specs.Twins.{unseen, is_listed, twins}

module _ (vars : ℕ) (nb : List ℕ) where
  abbrev pub nodes_in : ℕ
  nodes_in = count_of (node_size vars) nb

  abbrev pub uncovered_in : ℕ → Bool
  uncovered_in n = not (eqb (field (node_size vars) nb n 0) 2)

  abbrev pub lowest_in : List ℤ → ℕ
  lowest_in x = lowest (label_in vars nb) nodes_in x

  abbrev pub listed_in : ℕ → Bool
  listed_in = is_listed (label_in vars nb) uncovered_in

  abbrev pub twins_in : ℕ → List ℕ
  twins_in = twins (label_in vars nb) uncovered_in

  -- The slots are those of all nodes, which are fewer; the hashes are the nodes' own.
  pub record Indexed (hashes slots : List ℕ) : Type 0 where
    pub vars-few : vars ≤ most_variables
    pub nodes-few : nodes_in ≤ most_nodes
    pub hashed : Hashed vars nb hashes
    pub fit : nodes_in < length slots
    pub is : slots ≡ slots_after (label_in vars nb) (length slots) nodes_in

  -- Of the nodes below n: row r is marked where one of them is uncovered and has the label of r, r being the lowest with it.
  pub record Seen (n : ℕ) (row : List ℕ) : Type 0 where
    pub long : nodes_in ≤ length row
    pub marks : (r : ℕ) → r < nodes_in → is_new (label_in vars nb) r ≡ true → eqb (get_or row r 0) 0 ≡ unseen (label_in vars nb) uncovered_in n (label_in vars nb r)
