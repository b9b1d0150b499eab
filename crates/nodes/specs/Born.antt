-- Nodes that an expansion writes: from the row of what the entries are in the state of the node that is expanded.
-- Assumes nothing.
use Rattle.std.specs.Prelude.{ℕ, ◌+◌, ◌-◌, ◌*◌, ◌<◌, ◌≤◌, ◌≡◌, Bool, ◌&&◌, List, eqb, leb, ltb, get_or, ℤ, pos}
use Rattle.mdp.specs.Sums.{sum}
use Rattle.folder.specs.Pick.{pick}
use Rattle.folder.specs.Contents.{field}
use Rattle.whole.specs.Order.{eq_z}
use Rattle.model.specs.Layout.{branch_size}
use Rattle.graph.specs.Simulation.{node_size, edge_bytes}
use Rattle.put.specs.Put.{unsigned, FitsField, Stays}
use Rattle.held.specs.Held.{state_field, parent_field}

-- Command c is enabled, by the row; the branch records, the children and the bytes of edges of the commands before c.
unfoldable pub on_in : List ℕ → List ℤ → ℕ → Bool
on_in cs row c = eq_z (get_or row (field 4 cs c 0) (pos 0)) (pos 1)

abbrev pub records_in : List ℕ → ℕ → ℕ
records_in cs c = sum c (λ i _. field 4 cs i 1)

abbrev pub children_in : List ℕ → List ℤ → ℕ → ℕ
children_in cs row c = sum c (λ i _. pick (on_in cs row i) (field 4 cs i 1) 0)

abbrev pub edges_in : List ℕ → List ℤ → ℕ → ℕ
edges_in cs row c = sum c (λ i _. pick (on_in cs row i) (edge_bytes (field 4 cs i 1)) 0)

module _ (vars : ℕ) (bs : List ℕ) (row : List ℤ) where
  -- What branch record r gives variable v.
  abbrev pub result_of : ℕ → ℕ → ℤ
  result_of r v = get_or row (field (branch_size vars) bs r (1 + v)) (pos 0)

  -- Field f of a new node by branch record r: waiting, with no label, and nothing known of it yet.
  unfoldable pub new_field : ℕ → ℕ → ℕ → ℕ
  new_field r parent f =
      pick (eqb f parent_field) parent (pick (leb state_field f && ltb f (state_field + vars)) (unsigned (result_of r (f - state_field))) 0)

  -- Its results fit their fields.
  pub record ResultsFit (r : ℕ) : Type 0 where
    pub fits : (v : ℕ) → v < vars → FitsField (result_of r v)

  -- The first i fields of node k are written. The last that counts is the hint.
  abbrev pub new_fields : ℕ
  new_fields = state_field + vars + 1

  pub record Node (r parent k i : ℕ) (old new : List ℕ) : Type 0 where
    pub stays : Stays (node_size vars * k) (node_size vars * k + node_size vars) old new
    pub within : i ≤ new_fields
    pub is : (f : ℕ) → f < i → field (node_size vars) new k f ≡ new_field r parent f

  -- The nodes from k on, `count` of them, by the branch records from r on.
  pub record Family (r parent k count : ℕ) (old new : List ℕ) : Type 0 where
    pub stays : Stays (node_size vars * k) (node_size vars * (k + count)) old new
    pub is : (i : ℕ) → i < count → (f : ℕ) → f < new_fields → field (node_size vars) new (k + i) f ≡ new_field (r + i) parent f

  pub record AllFit (r count : ℕ) : Type 0 where
    pub each : (i : ℕ) → i < count → ResultsFit (r + i)

-- Those of the commands before c, from node k on: the child by branch b of command d stands after those of the commands before d.
module _ (vars : ℕ) (cs bs : List ℕ) (row : List ℤ) where
  pub record Brood (parent k c : ℕ) (old new : List ℕ) : Type 0 where
    pub stays : Stays (node_size vars * k) (node_size vars * (k + children_in cs row c)) old new
    pub is : (d : ℕ) → d < c → on_in cs row d ≡ Bool.true → (b : ℕ) → b < field 4 cs d 1 → (f : ℕ) → f < new_fields vars bs row
        → field (node_size vars) new (k + children_in cs row d + b) f ≡ new_field vars bs row (records_in cs d + b) parent f

  -- Every command's results fit.
  pub record BroodFits (commands : ℕ) : Type 0 where
    pub all : (c : ℕ) → c < commands → AllFit vars bs row (records_in cs c) (field 4 cs c 1)
