-- Demand 3 holds of every two folders' bytes.
-- Assumes nothing.
use Prim.Native.Nat.{ℕ, ◌<◌}
use mathlib.Core.Path.{◌≡◌, refl, subst}
use mathlib.Core.Logic.{◌≢◌}
use mathlib.Core.List.{List}
use native.Mathlib.Omega.{arith}
use Rattle.mdp.specs.Kinds.{Kind}
use Rattle.mdp.specs.Graph.{figure}
use Rattle.mdp.specs.Demand.{Demand3}
use Rattle.mdp.proofs.Demand.{demand}
use Rattle.folder.specs.Table.{Outcome}
use Rattle.folder.proofs.TabLaws.{length-tab, get_or-tab}
use Rattle.model.specs.Model.{Model, model_of}
use Rattle.model.specs.Chances.{mdp, initial_state}
use Rattle.model.proofs.Chances.{fair}
use Rattle.graph.specs.Limits.{units}
use Rattle.graph.specs.Simulation.{Simulation, simulation_of, graph}
use Rattle.graph.specs.Labels.{Contains, concrete_state}
use Rattle.graph.specs.Table.{graph_outcome, summary, answer_of, graph_answer}
use Rattle.graph.specs.Figures.{figures, figure_outcome, figure_part}
use Rattle.graph.specs.Valid.{Valid}
use Rattle.graph.specs.Demand.{Bounds, PartFits, Demand}
use Rattle.graph.specs.declared.Summary.{Summary}
use Rattle.graph.proofs.CountLaws.{none-of-kind}
use Rattle.graph.proofs.Decided.{accepted-valid, figure-valid}
use Rattle.graph.proofs.Labelled.{kind-is, labelled, valued, own, root-contains}
use Rattle.std.specs.Prelude.{Err, Ok}

-- Of a graph that keeps the rules.
module _ (m g : List ℕ) (A : Valid m g) where
  abbrev M : Model
  M = model_of m

  abbrev G : Simulation
  G = simulation_of M g

  valid-demand : Demand3 (mdp M) units (graph G) (initial_state M) (concrete_state M G) (G.value 0)
  valid-demand = demand (mdp M) (fair M A.model.model) (graph G) units (Contains M G) (labelled M A.model.model G A.rows.content A.rules) G.value
      (valued M A.model.model G A.rows.content A.rules) (initial_state M) (concrete_state M G) A.rows.folder.some (root-contains M A.model.model G A.rows.content A.rules A.rows.folder.some)
      (own M A.model.model G A.rows.content A.rules)

  -- No node waits, by its kind's number.
  none-waits : ((n : ℕ) → n < G.nodes → G.kind n ≢ 0) → (n : ℕ) → n < G.nodes → (graph G).kind n ≢ Kind.waiting
  none-waits h n l e = h n l (kind-is (G.kind n) (A.rows.content.nodes n l).kind Kind.waiting e)

-- ---- the graph check's answer
pub answer-is : (o : Outcome) (t s : Summary) → answer_of o t ≡ Ok s → (o ≡ (Ok tt)) × (t ≡ s)
answer-is (Ok _) t s e = (refl, cc)
answer-is (Err f) t s e = let z : ◌≡◌ {A = ℕ} 0 1 = cc in absurd (omega arith)

answer-bounds : (m g : List ℕ) (s : Summary) → graph_answer m g ≡ Ok s → Bounds m g s
unfolding graph_answer
answer-bounds m g s e =
    let a = answer-is (graph_outcome m g) (summary (simulation_of (model_of m) g)) s e in
    let A : Valid m g = (accepted-valid m g).0 a.0 in
    let d = valid-demand m g A in
    subst (λ (t : Summary). Bounds m g t) a.1
    (record { root = d.bound; figures = λ w. d.figures (none-waits m g A (none-of-kind (simulation_of (model_of m) g) 0 w)) })

-- ---- the figure call's part
part-fits : (m g : List ℕ) (h : ℕ) (first second : List ℕ) → figure_outcome m g h first second ≡ (Ok tt) → PartFits m g h (figure_part m g h first second)
unfolding figure_part figures
part-fits m g h first second e =
    let v = (figure-valid m g h first second).0 e in
    let d = valid-demand m g v.0 in
    let figs : ℕ → ℕ = figure (mdp (model_of m)) (graph (simulation_of (model_of m) g)) units h in
    rw e (record {
      one_each = length-tab (simulation_of (model_of m) g).nodes figs;
      fits = λ n l. rw (get_or-tab 0 (simulation_of (model_of m) g).nodes figs n l) (d.figures (none-waits m g v.0 v.1.none-waits) h n l);
    })

-- Demand 3: no hypothesis but acceptance.
pub demand-3 : (m g : List ℕ) → Demand m g
demand-3 m g = (answer-bounds m g, part-fits m g)
