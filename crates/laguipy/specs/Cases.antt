-- Document 01's cases for proof (◆) with the second places of document 02, 2.2, and a case for each way that a second place
-- comes about, as one list: what a call answers, and what it is due to answer.
-- Assumes nothing.
use Rattle.std.specs.Prelude.{ℕ, List, [], ◌∷◌, set, replicate, ℤ, pos, Err, Ok}
use Rattle.folder.specs.Table.{refusal_at, refused, Outcome}
use Rattle.model.specs.Pedal.{fields, folder_of, pedal_model}
use Rattle.model.specs.Step.{step_outcome, step_row}
use Rattle.graph.specs.Table.{graph_answer, GraphAnswer}
use Rattle.graph.specs.Figures.{figure_outcome, figure_part}
use Rattle.graph.specs.Pedal.{node, graph_folder, pedal_nodes, pedal_edges, pedal_graph}

-- What a call tells: the graph check its answer, the figure call and the step their outcome with the part or the row.
pub data Told : Type 0 where
  checked : GraphAnswer → Told
  figured : Outcome → List ℕ → Told
  stepped : Outcome → List ℤ → Told

pub record Case : Type 0 where
  pub told : Told
  pub due : Told

infix 80 ◌is◌
abbrev pub ◌is◌ : Told → Told → Case
t is d = record { told = t; due = d }

-- The calls, on rows of zeros.
abbrev pub check : List ℕ → List ℕ → Told
check m g = checked (graph_answer m g)

abbrev pub figures_of : List ℕ → List ℕ → ℕ → Told
figures_of m g h = figured (figure_outcome m g h (replicate 6 0) (replicate 6 0)) (figure_part m g h (replicate 6 0) (replicate 6 0))

abbrev pub step : List ℕ → List ℤ → ℕ → ℕ → Told
step m s c b = stepped (step_outcome m s c b (replicate 2 (pos 0))) (step_row m s c b (replicate 2 (pos 0)))

abbrev pub accepts : ℕ → ℕ → ℕ → ℕ → ℕ → Told
accepts root expanded covered target waiting =
    checked (Ok (record { root = root; waiting = waiting; expanded = expanded; covered = covered; target = target }))

-- With a second place, and with none.
abbrev pub refuses_at : ℕ → ℕ → ℕ → Told
refuses_at n p s = checked (Err (refusal_at n p s))

abbrev pub refuses : ℕ → ℕ → Told
refuses n p = refuses_at n p 0

-- The pedal graph with another record for node n.
abbrev pub pedal_with : ℕ → List ℕ → List ℕ
pedal_with n r = graph_folder (set pedal_nodes n r) pedal_edges

-- D 3: a in 0..2, initially 0; target a = 1. Command 0, a = 0: 1: a' = 1; 2: a' = 2.
abbrev pub third_model : List ℕ
third_model =
    folder_of (
    fields (3 ∷ 5 ∷ [])
    ∷ fields (0 ∷ 2 ∷ 0 ∷ [])
    ∷ fields (1 ∷ 0 ∷ 0 ∷ 0 ∷ 0 ∷ 0 ∷ 0 ∷ 0 ∷ 0 ∷ 1 ∷ 0 ∷ 0 ∷ 0 ∷ 2 ∷ 0 ∷ 0 ∷ 8 ∷ 0 ∷ 1 ∷ 0 ∷ 8 ∷ 0 ∷ 2 ∷ 0 ∷ [])
    ∷ fields (4 ∷ 2 ∷ [])
    ∷ fields (1 ∷ 2 ∷ 2 ∷ 3 ∷ [])
    ∷ []
    )

-- The root, a target and a dead end.
abbrev pub third_graph : ℕ → List ℕ
third_graph root =
    graph_folder
    (node 1 0 root 1 1 (0 ∷ []) (0 ∷ []) ∷ node 3 0 1000000000 0 1 (1 ∷ []) (1 ∷ []) ∷ node 1 0 0 0 1 (2 ∷ []) (2 ∷ []) ∷ [])
    (0 ∷ 1 ∷ 2 ∷ [])

-- D 1: x and y in 0..1, initially 0; target x = 1. Command 0, y = 0 or (not true and x = 0): x' = 0, y' = 0.
abbrev pub mention_model : List ℕ
mention_model =
    folder_of (
    fields (1 ∷ 10 ∷ [])
    ∷ fields (0 ∷ 1 ∷ 0 ∷ 0 ∷ 1 ∷ 0 ∷ [])
    ∷ fields (
    1 ∷ 0 ∷ 0 ∷ 0
    ∷ 1 ∷ 1 ∷ 0 ∷ 0
    ∷ 0 ∷ 0 ∷ 0 ∷ 0
    ∷ 14 ∷ 0 ∷ 0 ∷ 0
    ∷ 11 ∷ 3 ∷ 0 ∷ 0
    ∷ 8 ∷ 0 ∷ 2 ∷ 0
    ∷ 12 ∷ 4 ∷ 5 ∷ 0
    ∷ 8 ∷ 1 ∷ 2 ∷ 0
    ∷ 13 ∷ 7 ∷ 6 ∷ 0
    ∷ 0 ∷ 1 ∷ 0 ∷ 0
    ∷ 8 ∷ 0 ∷ 9 ∷ 0
    ∷ []
    )
    ∷ fields (8 ∷ 1 ∷ [])
    ∷ fields (1 ∷ 2 ∷ 2 ∷ [])
    ∷ []
    )

-- The root, which tracks this set, and whose edge leads back to it; and the root that tracks both, and whose edge leads to a
-- waiting node with this set, state and label.
abbrev pub mention_root : ℕ → List ℕ
mention_root tracked = graph_folder (node 1 0 0 1 tracked (0 ∷ 0 ∷ []) (0 ∷ 0 ∷ []) ∷ []) (0 ∷ 0 ∷ [])

abbrev pub mention_edge : ℕ → List ℕ → List ℕ → List ℕ
mention_edge tracked state label = graph_folder (node 1 0 0 1 3 (0 ∷ 0 ∷ []) (0 ∷ 0 ∷ []) ∷ node 0 0 1000000000 0 tracked state label ∷ []) (0 ∷ 1 ∷ [])

-- The third example's graph with other records for the nodes after the root.
abbrev pub third_with : ℕ → List ℕ → List ℕ → List ℕ
third_with root first second = graph_folder (node 1 0 root 1 1 (0 ∷ []) (0 ∷ []) ∷ first ∷ second ∷ []) (0 ∷ 1 ∷ 2 ∷ [])

-- The list.
abbrev pub cases : List Case
cases =
    -- as printed: accepted; its four figures
    check pedal_model pedal_graph is accepts 10000000 3 2 1 0
    ∷ figures_of pedal_model pedal_graph 0 is figured (Ok tt) (0 ∷ 0 ∷ 0 ∷ 0 ∷ 0 ∷ 1000000000 ∷ [])
    ∷ figures_of pedal_model pedal_graph 1 is figured (Ok tt) (0 ∷ 0 ∷ 100000000 ∷ 0 ∷ 0 ∷ 1000000000 ∷ [])
    ∷ figures_of pedal_model pedal_graph 2 is figured (Ok tt) (10000000 ∷ 0 ∷ 100000000 ∷ 10000000 ∷ 0 ∷ 1000000000 ∷ [])
    ∷ figures_of pedal_model pedal_graph 3 is figured (Ok tt) (10000000 ∷ 0 ∷ 100000000 ∷ 10000000 ∷ 0 ∷ 1000000000 ∷ [])
    -- root value 9,999,999
    ∷ check pedal_model (pedal_with 0 (node 1 0 9999999 2 1 (0 ∷ 0 ∷ []) (0 ∷ 0 ∷ []))) is refuses 25 0
    -- node 3 covered by 4, or by itself
    ∷ check pedal_model (pedal_with 3 (node 2 4 10000000 0 1 (0 ∷ 1 ∷ []) (0 ∷ 0 ∷ []))) is refuses 22 3
    ∷ check pedal_model (pedal_with 3 (node 2 3 10000000 0 1 (0 ∷ 1 ∷ []) (0 ∷ 0 ∷ []))) is refuses 22 3
    -- node 5 waiting: accepted; figure 26 at 5
    ∷ check pedal_model (pedal_with 5 (node 0 0 1000000000 0 1 (2 ∷ 0 ∷ []) (2 ∷ 0 ∷ []))) is accepts 10000000 3 2 0 1
    ∷ figures_of pedal_model (pedal_with 5 (node 0 0 1000000000 0 1 (2 ∷ 0 ∷ []) (2 ∷ 0 ∷ []))) 3 is figured (refused 26 5) []
    -- node 0 tracks nothing: the first guard lacks a
    ∷ check pedal_model (pedal_with 0 (node 1 0 10000000 2 0 (0 ∷ 0 ∷ []) (0 ∷ 0 ∷ []))) is refuses_at 19 0 0
    -- node 0 without its second edge
    ∷ check pedal_model (graph_folder (set pedal_nodes 0 (node 1 0 10000000 1 1 (0 ∷ 0 ∷ []) (0 ∷ 0 ∷ []))) (0 ∷ 1 ∷ 2 ∷ 0 ∷ 4 ∷ 5 ∷ [])) is refuses 20 0
    -- node 3 tracks d = 1 too: what d is assigned reads unknown
    ∷ check pedal_model (pedal_with 3 (node 2 0 10000000 0 3 (0 ∷ 1 ∷ []) (0 ∷ 1 ∷ []))) is refuses_at 21 0 1
    -- node 2's label says a = 0: 21 at 0 by a, which comes before 18 at 2
    ∷ check pedal_model (pedal_with 2 (node 1 0 100000000 1 1 (1 ∷ 0 ∷ []) (0 ∷ 0 ∷ []))) is refuses_at 21 0 0
    -- step (0,0), command 0, branch 1: (1,0); from (1,0) command 1: 32
    ∷ step pedal_model (pos 0 ∷ pos 0 ∷ []) 0 1 is stepped (Ok tt) (pos 1 ∷ pos 0 ∷ [])
    ∷ step pedal_model (pos 1 ∷ pos 0 ∷ []) 1 0 is stepped (refused 32 1) (pos 0 ∷ pos 0 ∷ [])
    -- D 3
    ∷ check third_model (third_graph 333333334) is accepts 333333334 2 0 1 0
    ∷ figures_of third_model (third_graph 333333334) 1 is figured (Ok tt) (333333334 ∷ 1000000000 ∷ 0 ∷ [])
    ∷ check third_model (third_graph 333333333) is refuses 25 0
    -- a guard is unknown because of y; x, which its known part mentions, is the lowest that it lacks; and y where x is tracked
    ∷ check mention_model (mention_root 0) is refuses_at 19 0 0
    ∷ check mention_model (mention_root 1) is refuses_at 19 0 1
    -- the guard is known and the target lacks x
    ∷ check mention_model (mention_root 2) is refuses_at 19 0 0
    ∷ check mention_model (mention_root 3) is accepts 0 1 0 0 0
    -- the target is definite but wrong: of an expanded node, and of a target node
    ∷ check third_model (third_with 1000000000 (node 1 0 1000000000 0 1 (1 ∷ []) (1 ∷ [])) (node 1 0 0 0 1 (2 ∷ []) (2 ∷ []))) is refuses_at 19 1 65535
    ∷ check third_model (third_with 1000000000 (node 3 0 1000000000 0 1 (1 ∷ []) (1 ∷ [])) (node 3 0 1000000000 0 1 (2 ∷ []) (2 ∷ []))) is refuses_at 19 2 65535
    -- the successor's concrete label is not the result, although the label of the lower variable is wrong too
    ∷ check mention_model (mention_edge 1 (0 ∷ 1 ∷ []) (1 ∷ 0 ∷ [])) is refuses_at 21 0 65535
    -- its label has another value for y; and for both
    ∷ check mention_model (mention_edge 3 (0 ∷ 0 ∷ []) (0 ∷ 1 ∷ [])) is refuses_at 21 0 1
    ∷ check mention_model (mention_edge 3 (0 ∷ 0 ∷ []) (1 ∷ 1 ∷ [])) is refuses_at 21 0 0
    ∷ []
