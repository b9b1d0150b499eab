-- The contents and the bodies are the graph's bytes.
-- Assumes nothing.
use Prim.Native.Nat.{ℕ, ◌+◌, ◌-◌, ◌*◌, ◌≤◌, min}
use mathlib.Core.Path.{◌≡◌, refl, sym, ap, ◌∙◌, subst}
use mathlib.Core.List.{List, ◌++◌, append_assoc}
use native.Mathlib.Nat.{min-le_left}
use native.Mathlib.Omega.{arith}
use lib.ListN.{length, take, drop, length-append, length-drop}
use lib.Seq.{drop_at, drop-drop, length-take-le}
use borrow.Rule.Slice.PartMut.{put_mid}
use Rattle.model.specs.Layout.{variable_count}
use Rattle.model.specs.Model.{Model, model_of}
use Rattle.model.specs.Valid.{Valid}
use Rattle.graph.specs.Limits.{least_bytes, most_bytes, units}
use Rattle.graph.specs.Simulation.{node_size}
use Rattle.graph.specs.Figures.{over}
use Rattle.building.specs.Building.{Building, as_simulation}
use Rattle.building.specs.Length.{graph_length}
use Rattle.building.specs.Counts.{Walked}
use Rattle.building.specs.Values.{rounds_of}
use Rattle.building.specs.Built.{built, values_of}
use Rattle.written.specs.Bytes.{graph_bytes}
use Rattle.written.proofs.Accepted.{built-length}
use Rattle.wants.specs.Standing.{row_in}
use Rattle.assembly.specs.Stages.{contents_by, bodies_by, Bodied}
use Rattle.assembly.specs.Build.{one_node, limit_for, bytes_for}
use Rattle.assembly.proofs.BytesLaws.{nodes_long, edges_long, bytes-are}
use Rattle.assembly.proofs.Parts.{part_of, part-back}
use Rattle.assembly.proofs.Bodies.{graph_by}
use Rattle.assembly.proofs.Built.{one-fits, room-short}

-- The bytes over a slice are the contents, and the bodies over the rest.
pub over-bytes : (M : Model) (B : Building) (value : ℕ → ℕ) (out : List ℕ) → over (graph_bytes M (as_simulation M B value)) out ≡ contents_by (nodes_long M B) (edges_long M B) ++ over (bodies_by M B value) (drop least_bytes out)
over-bytes M B value out =
    ap (λ (b : List ℕ). over b out) (bytes-are M B value)
    ∙ append_assoc (contents_by (nodes_long M B) (edges_long M B)) (bodies_by M B value) (drop (length (contents_by (nodes_long M B) (edges_long M B) ++ bodies_by M B value)) out)
    ∙ ap (λ (l : List ℕ). contents_by (nodes_long M B) (edges_long M B) ++ (bodies_by M B value ++ l))
    (ap (λ (k : ℕ). drop k out) (length-append (contents_by (nodes_long M B) (edges_long M B)) (bodies_by M B value)) ∙ sym (drop-drop (length (bodies_by M B value)) least_bytes out))

-- The contents, then bodies with every value at S, over the rest.
abbrev pub certain_over : Model → Building → List ℕ → List ℕ
certain_over M B out = contents_by (nodes_long M B) (edges_long M B) ++ over (bodies_by M B (λ _. units)) (drop least_bytes out)

-- Round 0 is S everywhere.
pub certain-over : (M : Model) (B : Building) (out : List ℕ) → over (graph_bytes M (as_simulation M B (values_of M B 0))) out ≡ certain_over M B out
unfolding rounds_of
certain-over M B out = over-bytes M B (λ _. units) out

module _ (m : List ℕ) (W : Valid m) (out : List ℕ) (room : one_node (model_of m) ≤ length out) {longest : ℕ} (e : longest ≡ min (length out) most_bytes) where
  -- What is left of the slice past the contents is lent.
  pub room-lent : (least_bytes + node_size (variable_count m) ≤ longest) × (longest ≤ least_bytes + length (take (length out - least_bytes) (drop least_bytes out))) × (longest ≤ most_bytes)
  room-lent = rw (e, part_of least_bytes out) (one-fits m W out room, omega (arith, min-le_left (length out) most_bytes, length-drop least_bytes out), room-short m W out room)

  pub same_graph : graph_by m longest ≡ built (model_of m) (limit_for out)
  same_graph = rw e refl

  module _ {nodes len size : ℕ} {new begins : List ℕ} (D : Bodied m longest nodes len (take (length out - least_bytes) (drop least_bytes out)) new begins) (z : size ≡ node_size (variable_count m)) where
    -- The nodes' bytes, and how many are left for the edges.
    pub nodes-within : least_bytes + size * nodes ≤ len
    unfolding graph_length
    nodes-within = rw (z, D.count, D.long) (omega arith)

    pub len-small : len ≤ most_bytes
    len-small = omega (arith, D.short, room-lent)

    edges-left : len - least_bytes - size * nodes ≡ edges_long (model_of m) (graph_by m longest)
    unfolding graph_length
    edges-left = rw (z, D.count, D.long) (omega arith)

    nodes-are : size * nodes ≡ nodes_long (model_of m) (graph_by m longest)
    nodes-are = rw (z, D.count) refl

    pub slice-long : least_bytes ≤ length (put_mid least_bytes (length out - least_bytes) out new)
    slice-long = rw (part-back least_bytes out (omega arith) new, length-append) (omega (arith, length-take-le least_bytes out (omega arith)))

    -- Past the contents the slice holds the bodies.
    bodies-past : drop least_bytes (put_mid least_bytes (length out - least_bytes) out new) ≡ over (bodies_by (model_of m) (graph_by m longest) (λ _. units)) (drop least_bytes out)
    bodies-past =
        ap (drop least_bytes) (part-back least_bytes out (omega arith) new)
        ∙ drop_at (take least_bytes out) new least_bytes (length-take-le least_bytes out (omega arith))
        ∙ D.are
        ∙ ap (over (bodies_by (model_of m) (graph_by m longest) (λ _. units))) (part_of least_bytes out)

    pub certain-is : {last : List ℕ} → last ≡ contents_by (size * nodes) (len - least_bytes - size * nodes) ++ drop least_bytes (put_mid least_bytes (length out - least_bytes) out new)
        → (nodes ≡ (built (model_of m) (limit_for out)).nodes) × ((len ≡ length (bytes_for (model_of m) 0 out)) × ((last ≡ over (bytes_for (model_of m) 0 out) out) × Walked (model_of m) (built (model_of m) (limit_for out)) (row_in begins)))
    certain-is q = (
      D.count ∙ ap (λ (b : Building). b.nodes) same_graph,
      (
        D.long ∙ ap (graph_length (model_of m)) same_graph ∙ sym (built-length (model_of m) (limit_for out) 0),
        (
          q
              ∙ (λ i. contents_by (nodes-are i) (edges-left i) ++ bodies-past i)
              ∙ ap (λ (b : Building). certain_over (model_of m) b out) same_graph
              ∙ sym (certain-over (model_of m) (built (model_of m) (limit_for out)) out),
          subst (λ (b : Building). Walked (model_of m) b (row_in begins)) same_graph D.walked,
        ),
      ),
    )
