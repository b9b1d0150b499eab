-- The report's text, line after line, and what an accepted graph gives for it.
-- Assumes nothing.
use Prim.Native.Nat.{ℕ, ◌+◌, ◌%◌, ◌≤◌}
use native.Mathlib.Omega.{arith}
use mathlib.Core.Path.{◌≡◌, sym, ap, ◌∙◌, subst}
use mathlib.Core.List.{List, ◌++◌, append-nil}
use borrow.Author.Tests.{eq-eqb, ne_eqb}
use lib.ListN.{length, get_or}
use Rattle.folder.specs.Fields.{field_limit}
use Rattle.folder.specs.Table.{outcome}
use Rattle.text.specs.Text.{written, Holds}
use Rattle.text.proofs.TextLaws.{holds_more}
use Rattle.model.specs.Model.{Model, model_of}
use Rattle.graph.specs.Limits.{most_steps, most_nodes}
use Rattle.graph.specs.Simulation.{Simulation, simulation_of}
use Rattle.graph.specs.Table.{summary, graph_answer, graph_outcome, GraphAnswer}
use Rattle.graph.specs.Figures.{figure_rows, first_of, second_of}
use Rattle.graph.specs.Valid.{Valid}
use Rattle.graph.specs.declared.Summary.{Summary}
use Rattle.graph.proofs.CountLaws.{kind-few, none-of-kind}
use Rattle.graph.proofs.Decided.{accepted-valid, figure-valid}
use Rattle.graph.proofs.Demand.{answer-is}
use Rattle.rounds.proofs.FigureLaws.{begins}
use Rattle.laguipy.proofs.CallLaws.{figure-goes-on}
use Rattle.report.specs.Room.{text_room}
use Rattle.report.specs.Report.{counts_line, root_line, figure_lines, root_figure, text_of, report_text}
use Rattle.std.specs.Prelude.{Ok}

module _ (m g : List ℕ) where
  abbrev M : Model
  M = model_of m

  abbrev G : Simulation
  G = simulation_of M g

  module _ (A : Valid m g) where
    -- No count is more than the most nodes.
    pub counts-few : {s : Summary} → s ≡ summary G
        → (s.expanded ≤ field_limit) × (s.covered ≤ field_limit) × (s.target ≤ field_limit) × (s.waiting ≤ field_limit)
    counts-few {s} e = (
      omega (arith, ap (λ (x : Summary). x.expanded) e, kind-few G 1, A.rows.folder.few),
      omega (arith, ap (λ (x : Summary). x.covered) e, kind-few G 2, A.rows.folder.few),
      omega (arith, ap (λ (x : Summary). x.target) e, kind-few G 3, A.rows.folder.few),
      omega (arith, ap (λ (x : Summary). x.waiting) e, kind-few G 0, A.rows.folder.few),
    )

    -- With no node waiting, rows of `most_nodes` elements take the figures, and the root's is the first element.
    module _ (z : (summary G).waiting ≡ 0) (h : ℕ) (l : h ≤ most_steps)
        (first second : List ℕ) (p : most_nodes ≤ length first) (q : most_nodes ≤ length second) where
      figure-accepted : outcome (figure_rows G h first second) ≡ (Ok tt)
      figure-accepted =
          sym (figure-goes-on m g h first second ((accepted-valid m g).1 A))
          ∙ (figure-valid m g h first second).1 (
            A,
            record {
              none-waits = none-of-kind G 0 z;
              few-steps = l;
              first-long = omega (arith, A.rows.folder.few);
              second-long = omega (arith, A.rows.folder.few);
            },
          )

      pub root-first : {a : List ℕ} {r : ℕ} → a ≡ first_of M G h (outcome (figure_rows G h first second)) first
          → r ≡ get_or a 0 0 → h % 2 ≡ 0 → r ≡ root_figure m g h
      root-first e w t = w ∙ rw (e, figure-accepted, eq-eqb (h % 2) 0 t) (begins A h _ 0 A.rows.folder.some)

      pub root-second : {b : List ℕ} {r : ℕ} → b ≡ second_of M G h (outcome (figure_rows G h first second)) second
          → r ≡ get_or b 0 0 → (h % 2 ≡ 0 → ⊥) → r ≡ root_figure m g h
      root-second e w t =
          w
          ∙ rw (e, figure-accepted, ne_eqb h 0 (λ k. t (ap (λ (j : ℕ). j % 2) k)), ne_eqb (h % 2) 0 t)
          (begins A h _ 0 A.rows.folder.some)

  pub none-waiting : {s : Summary} → s ≡ summary G → s.waiting ≡ 0 → (summary G).waiting ≡ 0
  none-waiting e z = sym (ap (λ (x : Summary). x.waiting) e) ∙ z

  -- The lines of an accepted graph: two, and the figures' where no node waits.
  module _ (s : Summary) {out out₁ out₂ : List ℕ} {a b : ℕ}
      (room : text_room ≤ length out) (h : Holds out (counts_line s) out₁ a) (l : a ≤ 160)
      (w : (b ≡ a + length (root_line s.root)) × (out₂ ≡ written out₁ a (root_line s.root)) × (b ≤ a + 26)) where
    lines : Holds out (counts_line s ++ root_line s.root) out₂ b
    lines = holds_more h (root_line s.root) (omega (arith, w.0, w.2)) w.0 w.1

    pub two-lines : (s.waiting ≡ 0 → ⊥) → Holds out (text_of (Ok s) (root_figure m g)) out₂ b
    two-lines z = rw (ne_eqb s.waiting 0 z, append-nil) lines

    pub all_lines : {f0 f1 f2 f3 r : ℕ} {out₃ : List ℕ}
        → f0 ≡ root_figure m g 0 → f1 ≡ root_figure m g 1 → f2 ≡ root_figure m g 2 → f3 ≡ root_figure m g 3
        → (r ≡ b + length (figure_lines f0 f1 f2 f3)) × (out₃ ≡ written out₂ b (figure_lines f0 f1 f2 f3)) × (r ≤ b + 196)
        → s.waiting ≡ 0
        → Holds out (text_of (Ok s) (root_figure m g)) out₃ r
    all_lines {f0} {f1} {f2} {f3} e0 e1 e2 e3 u z =
        rw (eq-eqb s.waiting 0 z, sym e0, sym e1, sym e2, sym e3)
        (holds_more lines (figure_lines f0 f1 f2 f3) (omega (arith, w.2, u.0, u.2)) u.0 u.1)

  -- An accepting answer is of a graph that keeps the rules, and gives its counts.
  module _ {s : Summary} (e : graph_answer m g ≡ Ok s) where
    pub answer-valid : Valid m g
    unfolding graph_answer
    answer-valid = (accepted-valid m g).0 (answer-is (graph_outcome m g) (summary G) s e).0

    pub answer-summary : s ≡ summary G
    unfolding graph_answer
    answer-summary = sym (answer-is (graph_outcome m g) (summary G) s e).1

  -- What is printed of an answer.
  pub report-of : {a : GraphAnswer} {x : List ℕ} {out out' : List ℕ} {r : ℕ}
      → a ≡ graph_answer m g → Holds out x out' r → x ≡ text_of a (root_figure m g) → Holds out (report_text m g) out' r
  unfolding report_text
  report-of {x = x} {out} {out'} {r} e h w =
      subst (λ (t : List ℕ). Holds out t out' r) (w ∙ ap (λ (b : GraphAnswer). text_of b (root_figure m g)) e) h
