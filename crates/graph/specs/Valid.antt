-- Rows 12 to 25, in document 01's words. (Rules.antt has their tests.) Those that read expressions are said of any readings
-- R: since document 02, 2.4, the check goes by all states of a label.
-- Assumes nothing.
use Rattle.std.specs.Prelude.{ℕ, ◌+◌, ◌*◌, ◌/◌, ◌%◌, ◌^◌, ◌<◌, ◌≤◌, ◌≡◌, ◌≢◌, true, false, List, length, pos, ◌≤ℤ◌, None, Some}
use Rattle.mdp.specs.Graph.{along}
use Rattle.folder.specs.Tab.{tab, passing}
use Rattle.folder.specs.Contents.{body, EntryRight as ContentsRight}
use Rattle.expressions.specs.Meaning.{number_in}
use Rattle.expressions.specs.Reading.{is_true}
use Rattle.model.specs.Model.{Model, model_of, first_record}
use Rattle.model.specs.Chances.{mdp, initial_state}
use Rattle.model.specs.Valid as Models
use Rattle.graph.specs.Limits.{least_bytes, most_bytes, most_nodes, units, most_steps}
use Rattle.graph.specs.Simulation.{Simulation, bodies, node_size, node_count, simulation_of, graph}
use Rattle.graph.specs.Labels.{Readings, tracks, concrete_state, by_states, three_way}

-- Rows 12 to 14.
pub record FolderRight (M : Model) (g : List ℕ) : Type 0 where
  pub long : least_bytes ≤ length g
  pub short : length g ≤ most_bytes
  pub contents : (e : ℕ) → e < bodies → ContentsRight g bodies e
  pub whole : length (body g 0) % node_size M.variables ≡ 0
  pub some : 1 ≤ node_count M g
  pub few : node_count M g ≤ most_nodes

module _ (M : Model) (G : Simulation) where
  -- Row 15: node n.
  pub record NodeRight (n : ℕ) : Type 0 where
    pub kind : G.kind n ≤ 3
    pub value : G.value n ≤ units
    pub cover : G.kind n ≢ 2 → G.cover n ≡ 0
    pub edges : G.kind n ≢ 1 → G.edges n ≡ 0
    pub bits : G.tracked n / 2 ^ M.variables ≡ 0
    pub low : (v : ℕ) → v < M.variables → M.low v ≤ℤ G.concrete n v
    pub high : (v : ℕ) → v < M.variables → G.concrete n v ≤ℤ M.high v
    pub untracked : (v : ℕ) → v < M.variables → tracks G n v ≡ false → G.label n v ≡ pos 0

  -- Row 16: an edge of a node.
  pub record EdgeRight (n e : ℕ) : Type 0 where
    pub command : G.command n e < M.commands
    pub whole : G.whole n e ≡ true
    pub successors : (b : ℕ) → b < M.branches (G.command n e) → G.successor n e b < G.nodes

  -- Row 17.
  abbrev pub StartsInitial : Type 0
  StartsInitial = concrete_state M G 0 ≡ initial_state M

  -- Rows 15 to 17.
  pub record ContentRight : Type 0 where
    pub nodes : (n : ℕ) → n < G.nodes → NodeRight n
    pub edges : (n : ℕ) → n < G.nodes → (e : ℕ) → e < G.edges n → EdgeRight n e
    pub spent : G.spent ≡ true
    pub initial : StartsInitial

  -- A1: the label does not differ from the concrete label on a tracked variable.
  abbrev pub RightA1 : ℕ → Type 0
  RightA1 n = (v : ℕ) → v < M.variables → tracks G n v ≡ true → G.label n v ≡ G.concrete n v

  -- A2: expanded, and no guard unknown and the target false; target, and the target true.
  pub record RightA2 (R : Readings) (n : ℕ) : Type 0 where
    pub guards : G.kind n ≡ 1 → (c : ℕ) → c < M.commands → R.truth n (M.guard c) ≢ None
    pub no_target : G.kind n ≡ 1 → R.truth n M.target ≡ (Some false)
    pub target : G.kind n ≡ 3 → R.truth n M.target ≡ (Some true)

  -- B1: expanded, and its edges are the enabled commands, each once, ascending.
  abbrev pub RightB1 : Readings → ℕ → Type 0
  RightB1 R n = G.kind n ≡ 1 → tab (G.edges n) (G.command n) ≡ passing M.commands (λ c. is_true (R.truth n (M.guard c)))

  -- B2: the successor of edge e by branch b.
  pub record Follows (R : Readings) (n e b : ℕ) : Type 0 where
    pub concrete : (v : ℕ) → v < M.variables
        → G.concrete (G.successor n e b) v ≡ number_in M.entries (concrete_state M G n) (M.assigned (first_record M (G.command n e) + b) v)
    pub label : (v : ℕ) → v < M.variables → tracks G (G.successor n e b) v ≡ true
        → R.number n (M.assigned (first_record M (G.command n e) + b) v) ≡ Some (G.label (G.successor n e b) v)

  abbrev pub RightB2 : Readings → ℕ → Type 0
  RightB2 R n = G.kind n ≡ 1 → (e : ℕ) → e < G.edges n → (b : ℕ) → b < M.branches (G.command n e) → Follows R n e b

  -- C3: the cover is there and not itself covered.
  abbrev pub RightC3 : ℕ → Type 0
  RightC3 n = G.kind n ≡ 2 → (G.cover n < G.nodes) × (G.kind (G.cover n) ≢ 2)

  -- C1: the concrete label lies in the cover's label.
  abbrev pub RightC1 : ℕ → Type 0
  RightC1 n = G.kind n ≡ 2 → (v : ℕ) → v < M.variables → tracks G (G.cover n) v ≡ true → G.concrete n v ≡ G.label (G.cover n) v

  -- C2: a variable the cover tracks is tracked, and does not differ.
  abbrev pub RightC2 : ℕ → Type 0
  RightC2 n =
      G.kind n ≡ 2 → (v : ℕ) → v < M.variables → tracks G (G.cover n) v ≡ true
      → (tracks G n v ≡ true) × (G.label n v ≡ G.label (G.cover n) v)

  -- The value rule, of any value for each node.
  pub record RightValue (value : ℕ → ℕ) (n : ℕ) : Type 0 where
    pub waiting : G.kind n ≡ 0 → value n ≡ units
    pub target : G.kind n ≡ 3 → value n ≡ units
    pub expanded : G.kind n ≡ 1 → (e : ℕ) → e < G.edges n → along (mdp M) (graph G) value n e ≤ M.total * value n
    pub covered : G.kind n ≡ 2 → value (G.cover n) ≤ value n

  -- Rows 18 to 25.
  pub record RulesRight (R : Readings) : Type 0 where
    pub a1 : (n : ℕ) → n < G.nodes → RightA1 n
    pub a2 : (n : ℕ) → n < G.nodes → RightA2 R n
    pub b1 : (n : ℕ) → n < G.nodes → RightB1 R n
    pub b2 : (n : ℕ) → n < G.nodes → RightB2 R n
    pub c3 : (n : ℕ) → n < G.nodes → RightC3 n
    pub c1 : (n : ℕ) → n < G.nodes → RightC1 n
    pub c2 : (n : ℕ) → n < G.nodes → RightC2 n
    pub values : (n : ℕ) → n < G.nodes → RightValue G.value n

-- Rows 12 to 17: the bytes are a graph that starts at the initial state.
pub record RowsRight (M : Model) (g : List ℕ) : Type 0 where
  pub folder : FolderRight M g
  pub content : ContentRight M (simulation_of M g)

-- All that the graph check asks: the folder and model rules, the initial state, A1 to C3 and the value rule.
pub record Valid (m g : List ℕ) : Type 0 where
  pub model : Models.Valid m
  pub rows : RowsRight (model_of m) g
  pub rules : RulesRight (model_of m) (simulation_of (model_of m) g) (by_states (model_of m) (simulation_of (model_of m) g))

-- What it asked before 2.4: the same, by document 01's readings.
pub record ValidThreeWay (m g : List ℕ) : Type 0 where
  pub model : Models.Valid m
  pub rows : RowsRight (model_of m) g
  pub rules : RulesRight (model_of m) (simulation_of (model_of m) g) (three_way (model_of m) (simulation_of (model_of m) g))

-- Rows 26 to 28: no node waits, h is at most 10,000, and no row is shorter than the nodes.
pub record FigureRight (G : Simulation) (h : ℕ) (first second : List ℕ) : Type 0 where
  pub none-waits : (n : ℕ) → n < G.nodes → G.kind n ≢ 0
  pub few-steps : h ≤ most_steps
  pub first-long : G.nodes ≤ length first
  pub second-long : G.nodes ≤ length second
