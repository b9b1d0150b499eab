-- The values after the rounds put into the graph's bytes.
-- Assumes nothing.
use Prim.Native.Nat.{ℕ, ◌-◌, ◌*◌, ◌<◌, ◌≤◌}
use mathlib.Core.Path.{◌≡◌, refl, sym, ap, ◌∙◌}
use mathlib.Core.List.{List, ◌++◌}
use native.Mathlib.Nat.{le_trans}
use native.Mathlib.Omega.{arith}
use lib.ListN.{length, get_or, take, drop, length-append}
use lib.Seq.{take_at}
use borrow.Rule.Slice.PartMut.{put_mid}
use Rattle.folder.specs.Tab.{fill}
use Rattle.folder.proofs.FillLaws.{get_or-filled}
use Rattle.model.specs.Layout.{variable_count}
use Rattle.model.specs.Model.{Model, model_of}
use Rattle.model.specs.Valid as Models
use Rattle.graph.specs.Limits.{least_bytes, most_nodes, units}
use Rattle.graph.specs.Simulation.{node_size, node_count, simulation_of}
use Rattle.graph.specs.Walks.{starts_at}
use Rattle.graph.specs.Figures.{over}
use Rattle.graph.specs.Valid.{Valid}
use Rattle.graph.proofs.Decided.{accepted-valid}
use Rattle.building.specs.Building.{Building, as_simulation}
use Rattle.building.specs.Counts.{Walked}
use Rattle.building.specs.Values.{rounds_of}
use Rattle.building.specs.Built as Rules
use Rattle.building.specs.Built.{built, built_graph, values_of}
use Rattle.building.proofs.Built.{built-accepted}
use Rattle.written.specs.Same.{Same}
use Rattle.written.proofs.ReadBack.{Fitting}
use Rattle.written.proofs.Counted.{edges-walked}
use Rattle.written.proofs.Accepted.{written-fits, written_same, built-length}
use Rattle.lowering.specs.Sweeps.{Starts}
use Rattle.wants.specs.Standing.{row_in}
use Rattle.assembly.specs.Stages.{bodies_by}
use Rattle.assembly.specs.Build.{one_node, limit_for, bytes_for}
use Rattle.assembly.proofs.BytesLaws.{bodies-long, bodies-same}
use Rattle.assembly.proofs.Parts.{part_of, part-back}
use Rattle.assembly.proofs.RoundLaws.{Alike, rounds-same}
use Rattle.assembly.proofs.Built.{fitted-accepted, fitted-within, room-short}
use Rattle.assembly.proofs.Certain.{over-bytes, certain_over, certain-over}

-- The graph that is built.
abbrev pub built_in : List ℕ → List ℕ → Building
built_in m out = built (model_of m) (limit_for out)

module _ (m : List ℕ) (W : Models.Valid m) (out : List ℕ) (room : one_node (model_of m) ≤ length out) where
  abbrev M : Model
  M = model_of m

  abbrev bytes : List ℕ
  bytes = bytes_for M 0 out

  R : Rules.Accepted M (limit_for out) (built_graph M (limit_for out) 0)
  R = built-accepted M W.model (limit_for out) (omega arith) 0

  F : Fitting M (built_graph M (limit_for out) 0)
  F = written-fits m W (built_graph M (limit_for out) 0) R.content R.rules R.some R.few (le_trans (fitted-within m W out room 0) (room-short m W out room))

  S : Same M (built_graph M (limit_for out) 0) (simulation_of M bytes)
  S = written_same m W (built_graph M (limit_for out) 0) R.content R.rules R.some R.few (le_trans (fitted-within m W out room 0) (room-short m W out room))

  -- The rounds go over the same graph, from its bytes.
  alike : Alike M (as_simulation M (built_in m out) (λ _. 0)) (simulation_of M bytes)
  alike = record {
    nodes = S.nodes;
    kind = S.kind;
    cover = S.cover;
    edges = S.edges;
    command = S.command;
    successor = S.successor;
    covers = λ n l k. (R.rules.c3 n l k).0;
    leads = λ n l e h. (R.content.edges n l e h).successors;
  }

  -- The bytes stand first in the slice, which is `mid` now.
  module _ {nodes len : ℕ} {mid : List ℕ} (n : nodes ≡ (built_in m out).nodes) (l : len ≡ length bytes) (e : mid ≡ over bytes out) where
    front : take len mid ≡ bytes
    front = rw (l, e) (take_at bytes (drop (length bytes) out) (length bytes) refl)

    pub front-within : len ≤ length mid
    front-within = rw (l, e, length-append) (omega arith)

    pub front_long : len ≡ length (take len mid)
    front_long = l ∙ sym (ap length front)

    pub front-valid : Valid m (take len mid)
    front-valid = rw front ((accepted-valid m bytes).0 (fitted-accepted m W out room 0))

    pub front-few : node_count M (take len mid) ≤ most_nodes
    front-few = front-valid.rows.folder.few

    -- Where the edges begin, by walking the bytes.
    pub front-starts : {begins : List ℕ} → most_nodes ≤ length begins → Walked M (built_in m out) (row_in begins) → Starts m (take len mid) begins
    front-starts {begins} long walked = record {
      long = omega (arith, front-few);
      is = λ k h.
          let b : k < (built_in m out).nodes = rw (front, S.nodes) at h in
          walked k b ∙ sym (edges-walked M (built_in m out) (values_of M (built_in m out) 0) F k (omega arith)) ∙ ap (λ (g : List ℕ). starts_at M g k) (sym front);
    }

    pub nodes-few : nodes ≤ most_nodes
    nodes-few = rw n R.few

    -- What the row holds after the rounds.
    row-values : (rounds : ℕ) (r : List ℕ) {row : List ℕ} → row ≡ fill (node_count M (take len mid)) (rounds_of M (simulation_of M (take len mid)) rounds) r
        → (k : ℕ) → k < (built_in m out).nodes → get_or row k 0 ≡ values_of M (built_in m out) rounds k
    row-values rounds r q k h =
        ap (λ (s : List ℕ). get_or s k 0) (q ∙ ap (λ (g : List ℕ). fill (node_count M g) (rounds_of M (simulation_of M g) rounds) r) front)
        ∙ get_or-filled 0 (node_count M bytes) (rounds_of M (simulation_of M bytes) rounds) r k (rw S.nodes h)
        ∙ rounds-same M (as_simulation M (built_in m out) (λ _. 0)) (simulation_of M bytes) alike rounds k h

    -- The slice as contents and bodies.
    mid-is : mid ≡ certain_over M (built_in m out) out
    mid-is = e ∙ certain-over M (built_in m out) out

    pub bodies-there : take (length mid - least_bytes) (drop least_bytes mid) ≡ over (bodies_by M (built_in m out) (λ _. units)) (drop least_bytes out)
    bodies-there = part_of least_bytes mid ∙ ap (drop least_bytes) mid-is

    pub nodes-there : {vars : ℕ} → vars ≡ variable_count m → node_size vars * nodes ≤ length (take (length mid - least_bytes) (drop least_bytes mid))
    nodes-there v = rw (v, n, bodies-there, length-append, bodies-long M (built_in m out) (λ _. units)) (omega arith)

    pub filled_is : (rounds : ℕ) (r : List ℕ) {row new : List ℕ}
        → row ≡ fill (node_count M (take len mid)) (rounds_of M (simulation_of M (take len mid)) rounds) r
        → new ≡ over (bodies_by M (built_in m out) (λ k. get_or row k 0)) (drop least_bytes out)
        → (len ≡ length (bytes_for M rounds out)) × (put_mid least_bytes (length mid - least_bytes) mid new ≡ over (bytes_for M rounds out) out)
    filled_is rounds r {row} {new} q p = (
      l ∙ built-length M (limit_for out) 0 ∙ sym (built-length M (limit_for out) rounds),
      part-back least_bytes mid (omega (arith, ap length mid-is)) new
          ∙ (λ i. ap (take least_bytes) mid-is i ++ (p ∙ ap (λ (b : List ℕ). over b (drop least_bytes out)) (bodies-same M (built_in m out) (λ k. get_or row k 0) (values_of M (built_in m out) rounds) (row-values rounds r q))) i)
          ∙ sym (over-bytes M (built_in m out) (values_of M (built_in m out) rounds) out),
    )
