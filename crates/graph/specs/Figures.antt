-- Document 01, "Figures": the figure call, rows 26 to 28 after the graph's, and the content of both rows.
-- Assumes nothing.
use Rattle.std.specs.Prelude.{ℕ, ◌-◌, ◌%◌, Bool, true, not, List, [], ◌∷◌, ◌++◌, length, drop, leb, eqb, Err, Ok}
use Rattle.mdp.specs.Graph.{figure}
use Rattle.folder.specs.Pick.{pick}
use Rattle.folder.specs.Tab.{tab}
use Rattle.folder.specs.Table.{Row, row, single, outcome, Outcome}
use Rattle.model.specs.Model.{Model, model_of}
use Rattle.model.specs.Table.{model_rows}
use Rattle.model.specs.Chances.{mdp}
use Rattle.graph.specs.Limits.{units, most_steps}
use Rattle.graph.specs.Simulation.{Simulation, graph, simulation_of}
use Rattle.graph.specs.Rules.{is_waiting}
use Rattle.graph.specs.Table.{graph_rows}

-- The figures for h steps, one per node: round h.
unfoldable pub figures : Model → Simulation → ℕ → List ℕ
figures M G h = tab G.nodes (figure (mdp M) (graph G) units h)

abbrev pub figure_rows : Simulation → ℕ → List ℕ → List ℕ → List Row
figure_rows G h first second =
    row 26 G.nodes (λ n. not (is_waiting G n))
    ∷ single 27 0 (leb h most_steps)
    ∷ row 28 2 (λ p. leb G.nodes (length (pick (eqb p 0) first second)))
    ∷ []

-- What the figure call answers, and the call on the same arguments that writes nothing.
unfoldable pub figure_outcome : List ℕ → List ℕ → ℕ → List ℕ → List ℕ → Outcome
figure_outcome m g h first second =
    outcome (model_rows m ++ graph_rows (model_of m) g ++ figure_rows (simulation_of (model_of m) g) h first second)

-- Round h stands in the first row when h is even, else in the second.
abbrev pub in_first : ℕ → Bool
in_first h = eqb (h % 2) 0

-- A row whose first elements are these figures; the later ones stay.
abbrev pub over : List ℕ → List ℕ → List ℕ
over figs row = figs ++ drop (length figs) row

module _ (M : Model) (G : Simulation) (h : ℕ) where
  -- The rows at exit. The other row holds round h − 1, or is untouched at h = 0. Refused, both rows stay.
  abbrev pub first_of : Outcome → List ℕ → List ℕ
  first_of (Ok _) first = pick (in_first h) (over (figures M G h) first) (over (figures M G (h - 1)) first)
  first_of (Err f) first = first

  abbrev pub second_of : Outcome → List ℕ → List ℕ
  second_of (Ok _) second = pick (eqb h 0) second (pick (in_first h) (over (figures M G (h - 1)) second) (over (figures M G h) second))
  second_of (Err f) second = second

  -- The part handed back holds the figures; refused, it is the empty part. It starts where the row does: the first row,
  -- or the second one where h is odd.
  abbrev pub part_of : Outcome → List ℕ
  part_of (Ok _) = figures M G h
  part_of (Err f) = []

  abbrev pub part_in_first : Outcome → Bool
  part_in_first (Ok _) = in_first h
  part_in_first (Err f) = true

module _ (m g : List ℕ) (h : ℕ) (first second : List ℕ) where
  unfoldable pub first_row : List ℕ
  first_row = first_of (model_of m) (simulation_of (model_of m) g) h (figure_outcome m g h first second) first

  unfoldable pub second_row : List ℕ
  second_row = second_of (model_of m) (simulation_of (model_of m) g) h (figure_outcome m g h first second) second

  unfoldable pub figure_part : List ℕ
  figure_part = part_of (model_of m) (simulation_of (model_of m) g) h (figure_outcome m g h first second)

  unfoldable pub figure_in_first : Bool
  figure_in_first = part_in_first (model_of m) (simulation_of (model_of m) g) h (figure_outcome m g h first second)
