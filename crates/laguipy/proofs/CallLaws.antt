-- How the outcomes of the calls hang together: a call that checks its folders first gives their refusal, or goes on.
-- Assumes nothing.
use Prim.Native.Nat.{ℕ}
use mathlib.Core.Path.{◌≡◌, refl, sym, ap, ◌∙◌}
use mathlib.Core.List.{List, ◌++◌, append_assoc}
use Rattle.folder.specs.Pick.{pick}
use Rattle.folder.specs.Table.{outcome, Outcome}
use Rattle.folder.specs.declared.Refusal.{Refusal}
use Rattle.folder.proofs.TableLaws.{accepted-then, refused-then}
use Rattle.model.specs.Model.{model_of}
use Rattle.model.specs.Table.{model_rows, model_outcome}
use Rattle.graph.specs.Simulation.{simulation_of}
use Rattle.graph.specs.Table.{graph_rows, graph_outcome, summary, graph_answer}
use Rattle.graph.specs.Figures.{figure_rows, figure_outcome, first_of, second_of, part_of, part_in_first, first_row, second_row, figure_part, figure_in_first}
use Rattle.std.specs.Prelude.{Err, Ok}

-- ---- the graph check, after the model check's outcome
pub graph-model-refused : (m g : List ℕ) (f : Refusal) → model_outcome m ≡ Err f → graph_outcome m g ≡ Err f
unfolding model_outcome graph_outcome
graph-model-refused m g f e = refused-then (model_rows m) (graph_rows (model_of m) g) f e

pub graph-goes-on : (m g : List ℕ) → model_outcome m ≡ (Ok tt) → graph_outcome m g ≡ outcome (graph_rows (model_of m) g)
unfolding model_outcome graph_outcome
graph-goes-on m g e = accepted-then (model_rows m) (graph_rows (model_of m) g) e

-- ---- its answer
pub answer-refused : (m g : List ℕ) (f : Refusal) → graph_outcome m g ≡ Err f → graph_answer m g ≡ Err f
unfolding graph_answer
answer-refused m g f e = rw e refl

pub answer-accepted : (m g : List ℕ) → graph_outcome m g ≡ (Ok tt) → graph_answer m g ≡ Ok (summary (simulation_of (model_of m) g))
unfolding graph_answer
answer-accepted m g e = rw e refl

-- ---- the figure call, after the graph check's outcome
module _ (m g : List ℕ) (h : ℕ) (first second : List ℕ) where
  figure-rows-after : figure_outcome m g h first second ≡ outcome ((model_rows m ++ graph_rows (model_of m) g) ++ figure_rows (simulation_of (model_of m) g) h first second)
  unfolding figure_outcome
  figure-rows-after = ap outcome (sym (append_assoc (model_rows m) (graph_rows (model_of m) g) (figure_rows (simulation_of (model_of m) g) h first second)))

  pub figure-graph-refused : (f : Refusal) → graph_outcome m g ≡ Err f → figure_outcome m g h first second ≡ Err f
  unfolding graph_outcome
  figure-graph-refused f e = figure-rows-after ∙ refused-then (model_rows m ++ graph_rows (model_of m) g) (figure_rows (simulation_of (model_of m) g) h first second) f e

  pub figure-goes-on : graph_outcome m g ≡ (Ok tt) → figure_outcome m g h first second ≡ outcome (figure_rows (simulation_of (model_of m) g) h first second)
  unfolding graph_outcome
  figure-goes-on e = figure-rows-after ∙ accepted-then (model_rows m ++ graph_rows (model_of m) g) (figure_rows (simulation_of (model_of m) g) h first second) e

  -- ---- what it leaves, by its outcome
  module _ {o : Outcome} (e : figure_outcome m g h first second ≡ o) where
    pub first-is : first_row m g h first second ≡ first_of (model_of m) (simulation_of (model_of m) g) h o first
    unfolding first_row
    first-is = ap (λ (a : Outcome). first_of (model_of m) (simulation_of (model_of m) g) h a first) e

    pub second_is : second_row m g h first second ≡ second_of (model_of m) (simulation_of (model_of m) g) h o second
    unfolding second_row
    second_is = ap (λ (a : Outcome). second_of (model_of m) (simulation_of (model_of m) g) h a second) e

    pub part-is : figure_part m g h first second ≡ part_of (model_of m) (simulation_of (model_of m) g) h o
    unfolding figure_part
    part-is = ap (part_of (model_of m) (simulation_of (model_of m) g) h) e

    pub starts-in : {A : Type 0} (p q : A) → pick (figure_in_first m g h first second) p q ≡ pick (part_in_first (model_of m) (simulation_of (model_of m) g) h o) p q
    unfolding figure_in_first
    starts-in p q = ap (λ (a : Outcome). pick (part_in_first (model_of m) (simulation_of (model_of m) g) h a) p q) e
