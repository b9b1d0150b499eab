-- The two bodies, in the slice past the contents, after the moves and the edges.
-- Assumes nothing.
use Prim.Native.Nat.{ℕ, ◌+◌, ◌*◌, ◌≤◌}
use mathlib.Core.Path.{◌≡◌, sym, ap, ◌∙◌, subst}
use mathlib.Core.List.{List, ◌++◌}
use native.Mathlib.Omega.{arith}
use lib.ListN.{length, drop, length-drop}
use lib.Seq.{ext_get_or, get_or-drop}
use Rattle.model.specs.Layout.{variable_count}
use Rattle.model.specs.Model.{model_of}
use Rattle.graph.specs.Limits.{units}
use Rattle.graph.specs.Simulation.{node_size}
use Rattle.graph.specs.Figures.{over}
use Rattle.building.specs.Building.{Building}
use Rattle.building.specs.Length.{edges_before, graph_length}
use Rattle.building.specs.Counts.{Walked}
use Rattle.building.specs.Built.{built}
use Rattle.put.specs.Put.{Stays}
use Rattle.held.specs.Held.{held_in}
use Rattle.wants.specs.Standing.{row_in}
use Rattle.work.specs.Working.{limit_of, Grown}
use Rattle.finish.specs.Finish.{bodies_of}
use Rattle.assembly.specs.Stages.{bodies_by, Bodied}
use Rattle.assembly.proofs.BytesLaws.{bodies-long}

-- What stays from `to` on stays from any later place on.
stays-later : {from to : ℕ} {old new : List ℕ} → Stays from to old new → (k : ℕ) → to ≤ k → drop k new ≡ drop k old
stays-later {old = old} {new = new} s k l =
    ext_get_or 0 (drop k new) (drop k old) (length-drop k new ∙ rw s.long (sym (length-drop k old)))
    (λ i _. get_or-drop k new i 0 ∙ s.past (k + i) (omega arith) ∙ sym (get_or-drop k old i 0))

-- The graph that the moves come to.
abbrev pub graph_by : List ℕ → ℕ → Building
graph_by m longest = built (model_of m) (limit_of longest)

module _ (m : List ℕ) (longest : ℕ) {nodes len : ℕ} {mid begins : List ℕ} (held : held_in m nodes mid ≡ graph_by m longest) (G : Grown m longest nodes len mid begins) where
  -- The edges have room.
  pub edges_fit : node_size (variable_count m) * nodes + edges_before (model_of m) (held_in m nodes mid) nodes ≤ length mid
  unfolding graph_length
  edges_fit = omega (arith, G.counted, G.short, G.lent)

  count-is : nodes ≡ (graph_by m longest).nodes
  count-is = ap (λ (b : Building). b.nodes) held

  -- What the edges are written over stays.
  pub bodied : {old new : List ℕ} → Stays 0 (node_size (variable_count m) * nodes) old mid → new ≡ over (bodies_of (model_of m) (held_in m nodes mid)) mid → Bodied m longest nodes len old new begins
  unfolding bodies_of bodies_by
  bodied s e = record {
    count = count-is;
    long = G.counted ∙ ap (graph_length (model_of m)) held;
    short = G.short;
    walked = subst (λ (b : Building). Walked (model_of m) b (row_in begins)) held G.walked;
    are = e ∙ ap (λ (b : Building). over (bodies_of (model_of m) b) mid) held
        ∙ ap (λ (l : List ℕ). bodies_by (model_of m) (graph_by m longest) (λ _. units) ++ l)
        (stays-later s (length (bodies_by (model_of m) (graph_by m longest) (λ _. units))) (rw (bodies-long (model_of m) (graph_by m longest) (λ _. units), count-is) (omega arith)));
  }
