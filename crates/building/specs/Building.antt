-- Document 02, 2.5: a graph while it is built, and the simulation graph that it is.
-- Assumes nothing.
use Rattle.std.specs.Prelude.{ℕ, zero, suc, ◌+◌, Bool, true, false, List, [], ◌++◌, length, get_or, ℤ, pos}
use Rattle.mdp.specs.Sums.{sum}
use Rattle.mdp.specs.Kinds.{Kind}
use Rattle.folder.specs.Pick.{pick, implies}
use Rattle.folder.specs.Scan.{all}
use Rattle.folder.specs.Tab.{tab, passing}
use Rattle.whole.specs.Order.{eq_z}
use Rattle.expressions.specs.Meaning.{State, value_of, truth_in}
use Rattle.expressions.specs.Reading.{has_bit}
use Rattle.expressions.specs.Combinations.{Label}
use Rattle.model.specs.Model.{Model, bound}
use Rattle.model.specs.Chances.{next}
use Rattle.graph.specs.Simulation.{Simulation}

-- The nodes so far: kind, cover if covered, tracked set (bit i for variable i) and concrete state of each, and the first of
-- its children if expanded. Past the count every node is blank (`Kept`).
pub record Building : Type 0 where
  pub nodes : ℕ
  pub kind : ℕ → Kind
  pub cover : ℕ → ℕ
  pub tracked : ℕ → ℕ
  pub state : ℕ → State
  pub child : ℕ → ℕ

-- All labels start empty.
unfoldable pub start_set : Model → ℕ
start_set M = 0

-- What an expansion in state s makes.
module _ (M : Model) (s : State) where
  abbrev pub enabled : ℕ → Bool
  enabled c = truth_in M.entries s (M.guard c)

  -- How many children the commands before c have.
  abbrev pub before : ℕ → ℕ
  before c = sum c (λ i _. pick (enabled i) (M.branches i) 0)

  abbrev pub births : ℕ
  births = before M.commands

  -- The states of the children of the commands before c: one per branch, in branch order, enabled commands ascending.
  unfoldable pub offspring : ℕ → List State
  offspring zero = []
  offspring (suc c) = offspring c ++ pick (enabled c) (tab (M.branches c) (λ b. next M c b s)) []

  -- Its edges, each by its command.
  abbrev pub edge_commands : List ℕ
  edge_commands = passing M.commands enabled

-- The label that tracks the set t, with the values of the state s; and whether it contains the state r.
abbrev pub label_by : Model → ℕ → State → Label
label_by M t s = record { variables = M.variables; bound = bound M; tracked = t; values = s }

unfoldable pub agrees : Model → ℕ → State → State → Bool
agrees M t s r = all (λ v. implies (has_bit t v) (eq_z (value_of s v) (value_of r v))) M.variables

-- A cover must be expanded or a target.
abbrev pub is_open : Kind → Bool
is_open Kind.waiting = false
is_open Kind.expanded = true
is_open Kind.covered = false
is_open Kind.target = true

module _ (M : Model) (B : Building) where
  -- The child of node n by branch b of command c.
  abbrev pub child_by : ℕ → ℕ → ℕ → ℕ
  child_by n c b = B.child n + before M (B.state n) c + b

  -- The label of node n; and whether it contains the state s.
  abbrev pub label_at : ℕ → Label
  label_at n = label_by M (B.tracked n) (B.state n)

  abbrev pub contains : ℕ → State → Bool
  contains n s = agrees M (B.tracked n) (B.state n) s

-- ---- as a simulation graph

abbrev pub kind_number : Kind → ℕ
kind_number Kind.waiting = 0
kind_number Kind.expanded = 1
kind_number Kind.covered = 2
kind_number Kind.target = 3

-- x if covered, or if expanded; else 0.
abbrev pub if_covered : Kind → ℕ → ℕ
if_covered Kind.waiting x = 0
if_covered Kind.expanded x = 0
if_covered Kind.covered x = x
if_covered Kind.target x = 0

abbrev pub if_expanded : Kind → ℕ → ℕ
if_expanded Kind.waiting x = 0
if_expanded Kind.expanded x = x
if_expanded Kind.covered x = 0
if_expanded Kind.target x = 0

-- A label says of a variable its value in the concrete state if it is tracked, else 0.
abbrev pub label_value : Bool → ℤ → ℤ
label_value t z = pick t z (pos 0)

abbrev pub as_simulation : Model → Building → (ℕ → ℕ) → Simulation
as_simulation M B value = record {
  nodes = B.nodes;
  kind = λ n. kind_number (B.kind n);
  cover = λ n. if_covered (B.kind n) (B.cover n);
  value = value;
  edges = λ n. if_expanded (B.kind n) (length (edge_commands M (B.state n)));
  tracked = B.tracked;
  concrete = λ n v. value_of (B.state n) v;
  label = λ n v. label_value (has_bit (B.tracked n) v) (value_of (B.state n) v);
  command = λ n e. get_or (edge_commands M (B.state n)) e 0;
  successor = λ n e b. child_by M B n (get_or (edge_commands M (B.state n)) e 0) b;
  whole = λ n e. true;
  spent = true;
}
