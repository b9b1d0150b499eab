-- The graph check: rows 12 to 25 after the model's, 18 to 25 finished for one node before the next.
-- Assumes nothing.
use Rattle.std.specs.Prelude.{ℕ, ◌+◌, List, [], ◌∷◌, ◌++◌, eqb, Err, Ok, Result}
use Rattle.folder.specs.declared.Refusal.{Refusal}
use Rattle.mdp.specs.Sums.{sum}
use Rattle.folder.specs.Pick.{pick}
use Rattle.folder.specs.Contents.{entry_ok}
use Rattle.folder.specs.Table.{Row, Rule, places, no_places, row, rule, rule_at, single, group, outcome, Outcome}
use Rattle.model.specs.Model.{Model, model_of}
use Rattle.model.specs.Table.{model_rows}
use Rattle.graph.specs.Simulation.{Simulation, bodies, simulation_of}
use Rattle.graph.specs.Rules.{bytes_fit, nodes_fit, node_fits, edges_fit, root_fits, A1, A2, B1, B2, C3, C1, C2, value_rule}
use Rattle.graph.specs.Seconds.{second19, second21}
use Rattle.graph.specs.declared.Summary.{Summary}

-- The rows that say that the bytes are a folder of nodes and edges.
abbrev pub folder_rows : Model → List ℕ → List Row
folder_rows M g = single 12 0 (bytes_fit g) ∷ row 13 bodies (entry_ok g bodies) ∷ single 14 0 (nodes_fit M g) ∷ []

-- The rows on what they hold, before any rule of a node.
abbrev pub content_rows : Model → Simulation → List Row
content_rows M G = row 15 G.nodes (node_fits M G) ∷ row 16 (G.nodes + 1) (edges_fit M G) ∷ single 17 0 (root_fits M G) ∷ []

-- Rows 12 to 17: the bytes are a graph that starts at the initial state.
abbrev pub first_rows : Model → List ℕ → List Row
first_rows M g = folder_rows M g ++ content_rows M (simulation_of M g)

-- The rules of node n.
abbrev pub node_rules : Model → Simulation → ℕ → List Rule
node_rules M G n =
    rule 18 (A1 M G n)
    ∷ rule_at 19 (A2 M G n) (second19 M G n)
    ∷ rule 20 (B1 M G n)
    ∷ rule_at 21 (B2 M G n) (second21 M G n)
    ∷ rule 22 (C3 M G n)
    ∷ rule 23 (C1 M G n)
    ∷ rule 24 (C2 M G n)
    ∷ rule 25 (value_rule M G G.value n)
    ∷ []

-- All nodes' rules, one node after the other.
abbrev pub rule_rows : Model → Simulation → List Row
rule_rows M G = group G.nodes (node_rules M G) ∷ []

abbrev pub graph_rows : Model → List ℕ → List Row
graph_rows M g = first_rows M g ++ rule_rows M (simulation_of M g)

unfoldable pub graph_outcome : List ℕ → List ℕ → Outcome
graph_outcome m g = outcome (model_rows m ++ graph_rows (model_of m) g)

-- The count of nodes of a kind.
abbrev pub kind_count : Simulation → ℕ → ℕ
kind_count G k = sum G.nodes (λ n _. pick (eqb (G.kind n) k) 1 0)

abbrev pub summary : Simulation → Summary
summary G = record {
  root = G.value 0;
  waiting = kind_count G 0;
  expanded = kind_count G 1;
  covered = kind_count G 2;
  target = kind_count G 3;
}

-- What an accepted graph has, or the refusal.
abbrev pub GraphAnswer : Type 0
GraphAnswer = Result Summary Refusal

abbrev pub answer_of : Outcome → Summary → GraphAnswer
answer_of (Ok _) s = Ok s
answer_of (Err f) s = Err f

-- What the graph check answers.
unfoldable pub graph_answer : List ℕ → List ℕ → GraphAnswer
graph_answer m g = answer_of (graph_outcome m g) (summary (simulation_of (model_of m) g))

-- Document 01's number of a graph check's answer, and the two places returned with it. Acceptance has none: 0.
abbrev pub answer_number : GraphAnswer → ℕ
answer_number (Ok s) = 0
answer_number (Err f) = f.number

abbrev pub answer_places : GraphAnswer → List ℕ
answer_places (Ok s) = no_places
answer_places (Err f) = places f

-- The root value and the count of nodes of each kind, by the kind's number. A refusal has none: 0.
abbrev pub answer_values : GraphAnswer → List ℕ
answer_values (Ok s) = s.root ∷ s.waiting ∷ s.expanded ∷ s.covered ∷ s.target ∷ []
answer_values (Err f) = 0 ∷ 0 ∷ 0 ∷ 0 ∷ 0 ∷ []
