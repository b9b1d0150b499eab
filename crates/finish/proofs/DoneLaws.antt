-- The loop over the nodes: those before n have their edges and their final records, the others are as they were.
-- Assumes nothing.
use Prim.Native.Nat.{ℕ, ◌+◌, ◌-◌, ◌*◌, ◌<◌, ◌≤◌}
use mathlib.Core.Path.{◌≡◌, refl, sym, ap, ◌∙◌, subst}
use mathlib.Core.List.{List, ◌++◌}
use native.Mathlib.Decide.{dec_lt}
use native.Mathlib.Omega.{arith}
use lib.ListN.{length, get_or, drop, length-append, length-drop, get_or-append}
use lib.Seq.{get_or-append-add, get_or-drop, ext_get_or}
use Rattle.folder.specs.Fields.{field_limit, u16}
use Rattle.folder.specs.Contents.{field}
use Rattle.folder.specs.Tab.{tab}
use Rattle.folder.proofs.TabLaws.{length-tab}
use Rattle.expressions.specs.Meaning.{State}
use Rattle.model.specs.Layout.{variable_count}
use Rattle.model.specs.Model.{Model, model_of}
use Rattle.model.specs.Pedal.{fields}
use Rattle.model.specs.Chances.{InRange}
use Rattle.graph.specs.Limits.{units}
use Rattle.graph.specs.Simulation.{Simulation, node_size}
use Rattle.building.specs.Building.{Building, births, if_expanded}
use Rattle.building.specs.Length.{edges_length, edges_of, edges_before}
use Rattle.building.specs.Counts.{Walked}
use Rattle.building.proofs.Lengths.{edges-within}
use Rattle.put.specs.Put.{unsigned}
use Rattle.held.specs.Held.{child_field, tracked_field, field_count, node_in, state_in, held_in, NodeHere}
use Rattle.held.proofs.FieldLaws.{record-at}
use Rattle.wants.specs.Standing.{row_in, Held}
use Rattle.written.specs.Bytes.{chain, node_fields, edges_fields, node_body, edge_body}
use Rattle.written.proofs.FieldLaws.{chain-wide}
use Rattle.written.proofs.ReadBack.{bytes-long}
use Rattle.written.proofs.LengthLaws.{edges-place, edges-long}
use Rattle.graph.specs.Figures.{over}
use Rattle.finish.specs.Finish.{certain, bodies_of}
use Rattle.finish.specs.Laid.{Stand, Laid, kind_in, own_edges, own_record, Fits, Ended}
use Rattle.finish.proofs.LaidLaws.{stand-none, stand-then, stand-below, stand-past}
use Rattle.finish.proofs.EdgeLaws.{chain_more}
use Rattle.finish.proofs.OwnLaws.{same-state, same_kind, same_edges_lem, same-record}
use Rattle.finish.proofs.BodyLaws.{kind-held, set-held, state-held, child-held, edges-held, record-held}

pub record Done (m nb₀ : List ℕ) (nodes n : ℕ) (nb : List ℕ) : Type 0 where
  pub within : n ≤ nodes
  pub long : length nb ≡ length nb₀
  pub records : Stand 0 (chain n (node_fields (model_of m) (certain (model_of m) (held_in m nodes nb₀)))) nb
  pub edges : Stand (node_size (variable_count m) * nodes) (chain n (edges_fields (model_of m) (certain (model_of m) (held_in m nodes nb₀)))) nb
  pub ahead : (j : ℕ) → node_size (variable_count m) * n ≤ j → j < node_size (variable_count m) * nodes → get_or nb j 0 ≡ get_or nb₀ j 0
  pub past : (j : ℕ) → node_size (variable_count m) * nodes + 2 * length (chain n (edges_fields (model_of m) (certain (model_of m) (held_in m nodes nb₀)))) ≤ j → get_or nb j 0 ≡ get_or nb₀ j 0

pub done-start : (m nb : List ℕ) (nodes : ℕ) → Done m nb nodes 0 nb
unfolding chain
done-start m nb nodes = record { within = omega arith; long = refl; records = stand-none _ nb; edges = stand-none _ nb; ahead = λ j l h. refl; past = λ j l. refl }

-- As the code has it, the end of the records.
pub records-end : {m nb : List ℕ} {nodes vars size : ℕ} → Held m nodes nb → vars ≡ variable_count m → size ≡ node_size vars → size * nodes ≤ length nb
records-end held p q = rw (q, p) held.long

-- As the code has it, where the edges of node n begin: within the slice.
module _ (m nb begins : List ℕ) (nodes : ℕ) (walked : Walked (model_of m) (held_in m nodes nb) (row_in begins)) {n vars size x : ℕ} (l : n < nodes) (p : vars ≡ variable_count m) (q : size ≡ node_size vars) (e : x ≡ row_in begins n) where
  pub begins-at : size * nodes + x ≡ node_size (variable_count m) * nodes + edges_before (model_of m) (held_in m nodes nb) n
  begins-at = rw (q, p) (ap (λ (k : ℕ). node_size (variable_count m) * nodes + k) (e ∙ walked n l))

  pub begins-within : node_size (variable_count m) * nodes + edges_before (model_of m) (held_in m nodes nb) nodes ≤ length nb → size * nodes + x ≤ length nb
  begins-within h = omega (arith, begins-at, edges-within (model_of m) (held_in m nodes nb) n l)

-- A record's length, and that of several.
module _ (m nb₀ : List ℕ) (nodes : ℕ) where
  abbrev M : Model
  M = model_of m

  abbrev B : Building
  B = held_in m nodes nb₀

  abbrev G : Simulation
  G = certain (model_of m) (held_in m nodes nb₀)

  record-wide : (i : ℕ) → length (node_fields M G i) ≡ field_count (variable_count m)
  record-wide i =
      let a : ℕ → ℕ = λ v. unsigned (G.concrete i v) in
      let b : ℕ → ℕ = λ v. unsigned (G.label i v) in
      omega (arith, length-append (tab M.variables a) (tab M.variables b), length-tab M.variables a, length-tab M.variables b)

  records-long : (n : ℕ) → 2 * length (chain n (node_fields M G)) ≡ node_size (variable_count m) * n
  records-long n = omega (arith, chain-wide (node_fields M G) (field_count (variable_count m)) n record-wide)

  -- Where the edges of node n begin.
  edges-begin : (n : ℕ) → 2 * length (chain n (edges_fields M G)) ≡ edges_before M B n
  edges-begin = edges-place M B (λ n. units)

-- At node n, whose edges begin where the row says.
module _ {m nb₀ : List ℕ} {nodes : ℕ} (held : Held m nodes nb₀) {n at : ℕ} {nb : List ℕ} (d : Done m nb₀ nodes n nb) (l : n < nodes) (begins : at ≡ node_size (variable_count m) * nodes + edges_before (model_of m) (held_in m nodes nb₀) n) where
  abbrev w : ℕ
  w = node_size (variable_count m)

  abbrev model : Model
  model = model_of m

  abbrev built : Building
  built = held_in m nodes nb₀

  abbrev records : ℕ → List ℕ
  records = node_fields (model_of m) (certain (model_of m) (held_in m nodes nb₀))

  abbrev edges : ℕ → List ℕ
  edges = edges_fields (model_of m) (certain (model_of m) (held_in m nodes nb₀))

  within : w * n + w ≤ w * nodes
  within = record-at w n nodes l

  starts : at ≡ w * nodes + 2 * length (chain n edges)
  starts = begins ∙ ap (λ (k : ℕ). w * nodes + k) (sym (edges-begin m nb₀ nodes n))

  same : (f : ℕ) → f < field_count (variable_count m) → node_in m nb n f ≡ node_in m nb₀ n f
  unfolding field u16
  same f h = rw (d.ahead (w * n + 2 * f) (omega arith) (omega (arith, within)), d.ahead (w * n + 2 * f + 1) (omega arith) (omega (arith, within)))

  state-is : state_in m nb n ≡ built.state n
  state-is = same-state m nb₀ nb n same ∙ state-held m nb₀ nodes n l

  kind-is : kind_in m nb n ≡ built.kind n
  kind-is = same_kind m nb₀ nb n same ∙ kind-held m nb₀ nodes n l

  here : NodeHere m nb n
  here = record {
    model = held.model;
    low = omega (arith, held.kept.few);
    small = rw (same tracked_field (omega arith) ∙ set-held m nb₀ nodes n l) (held.kept.small n l);
    states = subst (λ (s : State). InRange model s) (sym state-is) (held.kept.states n l);
  }

  module _ (room : node_size (variable_count m) * nodes + edges_before (model_of m) (held_in m nodes nb₀) nodes ≤ length nb₀) where
    own_room : at + if_expanded (kind_in m nb n) (edges_length model (state_in m nb n)) ≤ length nb
    own_room =
        let e : if_expanded (kind_in m nb n) (edges_length model (state_in m nb n)) ≡ edges_of model built n = λ i. if_expanded (kind-is i) (edges_length model (state-is i)) in
        omega (arith, begins, d.long, edges-within model built n l)

    pub node-fits : Fits m nb n at
    node-fits = record {
      here = here;
      past = omega (arith, within, begins);
      room = own_room;
      children = λ k.
          omega (arith, (held.kept.parents n l (sym kind-is ∙ k)).there, held.kept.few, same child_field (omega arith) ∙ child-held m nb₀ nodes n l, ap (births model) state-is);
    }

  module _ (bytes : (j : ℕ) → get_or nb₀ j 0 < 256) {new : List ℕ} (e : Ended m nb n at new) where
    small : (f : ℕ) → node_in m nb₀ n f < field_limit
    unfolding field u16
    small f = omega (arith, bytes (w * n + 2 * f), bytes (w * n + 2 * f + 1))

    own-edges : own_edges m nb n ≡ edges n
    own-edges = same_edges_lem m nb₀ nb n same ∙ edges-held m nb₀ nodes n l

    own-record : own_record m nb n ≡ records n
    own-record = same-record m nb₀ nb n same ∙ record-held m nb₀ nodes n l small

    edges-laid : Laid at (edges n) nb e.between
    edges-laid = subst (λ (us : List ℕ). Laid at us nb e.between) own-edges e.edges

    record-laid : Laid (w * n) (records n) e.between new
    record-laid = subst (λ (us : List ℕ). Laid (w * n) us e.between new) own-record e.final

    ends : 2 * length (chain (n + 1) edges) ≡ 2 * length (chain n edges) + 2 * length (edges n)
    ends = omega (arith, ap length (chain_more n edges), length-append (chain n edges) (edges n))

    -- The record ends where the next one starts, before the edges.
    last : w * n + 2 * length (records n) ≤ w * (n + 1)
    last = omega (arith, record-wide m nb₀ nodes n)

    next-records : Stand 0 (chain (n + 1) records) new
    next-records =
        let k : w * n ≡ 0 + 2 * length (chain n records) = omega (arith, records-long m nb₀ nodes n) in
        subst (λ (us : List ℕ). Stand 0 us new) (chain_more n records)
        (stand-then (stand-below record-laid.stays (omega (arith, k)) (stand-below edges-laid.stays (omega (arith, k, within, starts)) d.records))
        (subst (λ (a : ℕ). Stand a (records n) new) k record-laid.stand))

    next-edges : Stand (w * nodes) (chain (n + 1) edges) new
    next-edges =
        subst (λ (us : List ℕ). Stand (w * nodes) us new) (chain_more n edges)
        (stand-past record-laid.stays (omega (arith, within, last))
        (stand-then (stand-below edges-laid.stays (omega (arith, starts)) d.edges) (subst (λ (a : ℕ). Stand a (edges n) e.between) starts edges-laid.stand)))

    pub done_next : Done m nb₀ nodes (n + 1) new
    done_next = record {
      within = omega arith;
      long = record-laid.stays.long ∙ edges-laid.stays.long ∙ d.long;
      records = next-records;
      edges = next-edges;
      ahead = λ j p q. record-laid.stays.past j (omega (arith, last)) ∙ edges-laid.stays.below j (omega (arith, starts)) ∙ d.ahead j (omega arith) q;
      past = λ j p. record-laid.stays.past j (omega (arith, last, within, ends)) ∙ edges-laid.stays.past j (omega (arith, starts, ends)) ∙ d.past j (omega (arith, ends));
    }

-- All are done.
module _ {m nb₀ : List ℕ} {nodes : ℕ} (room : node_size (variable_count m) * nodes + edges_before (model_of m) (held_in m nodes nb₀) nodes ≤ length nb₀) {nb : List ℕ} (d : Done m nb₀ nodes nodes nb) where
  first : List ℕ
  first = fields (node_body (model_of m) (G m nb₀ nodes))

  second : List ℕ
  second = fields (edge_body (model_of m) (G m nb₀ nodes))

  abbrev both : List ℕ
  both = first ++ second

  first-long : length first ≡ node_size (variable_count m) * nodes
  unfolding first
  first-long = bytes-long (model_of m) (G m nb₀ nodes)

  second-long : length second ≡ edges_before (model_of m) (held_in m nodes nb₀) nodes
  unfolding second
  second-long = edges-long (model_of m) (held_in m nodes nb₀) (λ n. units)

  first-at : (j : ℕ) → j < length first → get_or nb j 0 ≡ get_or first j 0
  unfolding first
  first-at j h =
      let a : 0 + j ≡ j = omega arith in
      ap (λ (i : ℕ). get_or nb i 0) (sym a) ∙ d.records.is j (omega (arith, first-long, records-long m nb₀ nodes nodes))

  second_at : (j : ℕ) → j < length second → get_or nb (length first + j) 0 ≡ get_or second j 0
  unfolding second
  second_at j h = ap (λ (i : ℕ). get_or nb (i + j) 0) first-long ∙ d.edges.is j (omega (arith, second-long, edges-begin m nb₀ nodes nodes))

  both_at : (j : ℕ) → j < length both → get_or nb j 0 ≡ get_or both j 0
  both_at j h = go (dec_lt j (length first))
    where
      go : Dec (j < length first) → get_or nb j 0 ≡ get_or both j 0
      go (yes k) = first-at j k ∙ sym (get_or-append first second 0 j k)
      go (no g) =
          let e : length first + (j - length first) ≡ j = omega arith in
          subst (λ (i : ℕ). get_or nb i 0 ≡ get_or both i 0) e (second_at (j - length first) (omega (arith, length-append first second)) ∙ sym (get_or-append-add first second (j - length first) 0))

  whole-at : (j : ℕ) → get_or nb j 0 ≡ get_or (over both nb₀) j 0
  whole-at j = go (dec_lt j (length both))
    where
      go : Dec (j < length both) → get_or nb j 0 ≡ get_or (over both nb₀) j 0
      go (yes k) = both_at j k ∙ sym (get_or-append both (drop (length both) nb₀) 0 j k)
      go (no g) =
          let e : length both + (j - length both) ≡ j = omega arith in
          d.past j (omega (arith, length-append first second, first-long, second-long, edges-begin m nb₀ nodes nodes))
          ∙ ap (λ (i : ℕ). get_or nb₀ i 0) (sym e)
          ∙ sym (get_or-drop (length both) nb₀ (j - length both) 0)
          ∙ sym (get_or-append-add both (drop (length both) nb₀) (j - length both) 0)
          ∙ ap (λ (i : ℕ). get_or (over both nb₀) i 0) e

  all_done : nb ≡ over (bodies_of (model_of m) (held_in m nodes nb₀)) nb₀
  unfolding bodies_of first second
  all_done = ext_get_or 0 nb (over both nb₀)
      (omega (arith, d.long, length-append both (drop (length both) nb₀), length-drop (length both) nb₀, length-append first second, first-long, second-long))
      (λ j h. whole-at j)

pub done-over : {m nb₀ : List ℕ} {nodes n : ℕ} {nb : List ℕ} → Done m nb₀ nodes n nb → nodes ≤ n → node_size (variable_count m) * nodes + edges_before (model_of m) (held_in m nodes nb₀) nodes ≤ length nb₀
    → nb ≡ over (bodies_of (model_of m) (held_in m nodes nb₀)) nb₀
done-over {m} {nb₀} {nodes} {n} {nb} d l room =
    let e : n ≡ nodes = omega (arith, d.within) in
    all_done room (subst (λ (k : ℕ). Done m nb₀ nodes k nb) e d)
