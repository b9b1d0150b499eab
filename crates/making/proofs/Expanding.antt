-- Node n is expanded: by the row of what the entries are in its state.
-- Assumes nothing.
use Rattle.std.specs.Prelude.{Some}
use Prim.Native.Nat.{ℕ, ◌+◌, ◌-◌, ◌*◌, ◌^◌, ◌<◌, ◌≤◌}
use mathlib.Core.Path.{◌≡◌, refl, sym, ap, ◌∙◌, subst}
use mathlib.Core.List.{List, []}
use native.Mathlib.Decide.{dec_lt}
use native.Mathlib.Omega.{arith}
use lib.ListN.{length, get_or, set, length-set}
use lib.IntN.{ℤ}
use Rattle.folder.specs.Fields.{field_limit, field4_limit}
use Rattle.folder.specs.Tab.{tab}
use Rattle.folder.proofs.TabLaws.{length-tab, get_or-tab}
use Rattle.folder.specs.Contents.{body, count_of}
use Rattle.states.specs.Stated.{StateRow}
use Rattle.model.specs.Layout.{variable_count}
use Rattle.model.specs.Limits.{most_variables, most_commands}
use Rattle.model.specs.Model.{Model, model_of}
use Rattle.model.specs.Chances.{InRange}
use Rattle.model.proofs.Limits.{limits}
use Rattle.graph.specs.Limits.{least_bytes, most_bytes, most_nodes}
use Rattle.graph.specs.Simulation.{node_size}
use Rattle.building.specs.Building.{Building, start_set, births}
use Rattle.building.specs.Length.{edges_length, edges_before, graph_length, length_with}
use Rattle.building.specs.Moves.{Limit, expanding, expand}
use Rattle.building.specs.Kept.{Kept}
use Rattle.building.specs.Counts.{Counts, begin_after}
use Rattle.building.proofs.Lengths.{edges-within, length-expanding}
use Rattle.building.proofs.Counting.{waiting_few, expand-counts}
use Rattle.building.proofs.Working.{read-expanding, settled-expanding, parent-expanding, hint-expanding, reach-expanding, next-expanding, mark-expanding}
use Rattle.put.proofs.PutLaws.{stays-both}
use Rattle.held.specs.Held.{kind_field, child_field, parent_field, read_field, hint_field, node_in, state_in, set_in, put_in, NodeHere}
use Rattle.held.proofs.Made.{counted-in}
use Rattle.nodes.specs.Born.{records_in, children_in, edges_in, Brood, BroodFits}
use Rattle.nodes.proofs.Expanded.{records-few, children-is, edges-is, brood-fits, variables-some, expanded_in, expand-other, parent_is, read_none, hint-none, expand-made}
use Rattle.wants.specs.Standing.{parent_in, row_in}
use Rattle.work.specs.Working.{limit_of, graph_in, ToGrow, Ready, Made, grown_work}
use Rattle.work.specs.declared.Work.{Work}
use Rattle.making.proofs.Marks.{none-set}
use Rattle.making.proofs.Moving.{stays_wide, put-stays, valid, keeps, told_of, in_field, in-marks, one-waits as waits_one, made, made_as}
use Rattle.making.proofs.Becoming.{marked-alone}

-- The length that a graph has with a node expanded is that of its parts.
with-parts : (M : Model) (B : Building) (n : ℕ) → length_with M B n ≡ graph_length M B + (node_size M.variables * births M (B.state n) + edges_length M (B.state n))
unfolding length_with
with-parts M B n = refl

nodes-part : (M : Model) (B : Building) → least_bytes + node_size M.variables * B.nodes ≤ graph_length M B
unfolding graph_length
nodes-part M B = omega arith

-- What is left of it is the edges.
edges-part : (M : Model) (B : Building) → graph_length M B ≡ least_bytes + node_size M.variables * B.nodes + edges_before M B B.nodes
unfolding graph_length
edges-part M B = refl

module _ {m : List ℕ} {longest : ℕ} {w : Work} {nb marks reaches begins : List ℕ} {n : ℕ} (R : Ready m longest w nb marks reaches begins (Some (expand n))) where
  abbrev M : Model
  M = model_of m

  abbrev P : Limit
  P = limit_of longest

  abbrev B : Building
  B = graph_in m w nb

  abbrev K : Kept M most_nodes B
  K = keeps (expand n) R

  there : n < w.nodes
  there = (told_of (expand n) R).0

  state-is : B.state n ≡ state_in m nb n
  state-is = counted-in w.nodes [] n (state_in m nb n) there

  range : InRange M (state_in m nb n)
  range = subst (InRange M) state-is (K.states n there)

  pub here : NodeHere m nb n
  here = record {
    model = valid (expand n) R;
    low = omega (arith, in_field (expand n) R there);
    small = subst (λ (x : ℕ). x < 2 ^ variable_count m) (counted-in w.nodes (start_set M) n (set_in m nb n) there) (K.small n there);
    states = range;
  }

  module _ {row : List ℤ} (stated : StateRow (model_of m).entries (state_in m nb n) row) where
    abbrev born : ℕ
    born = children_in (body m 3) row (model_of m).commands

    abbrev bytes : ℕ
    bytes = edges_in (body m 3) row (model_of m).commands

    born-is : born ≡ births M (B.state n)
    born-is = children-is (valid (expand n) R) stated M.commands (omega arith) ∙ ap (births M) (sym state-is)

    bytes-are : bytes ≡ edges_length M (B.state n)
    bytes-are = edges-is (valid (expand n) R) stated ∙ ap (edges_length M) (sym state-is)

    few : w.nodes + born ≤ most_nodes
    few = rw born-is (told_of (expand n) R).2

    len_is : w.len + (node_size (variable_count m) * born + bytes) ≡ length_with M B n
    len_is = (λ i. R.lent.counted i + (node_size (variable_count m) * born-is i + bytes-are i)) ∙ sym (with-parts M B n)

    len-small : w.len + (node_size (variable_count m) * born + bytes) ≤ most_bytes
    len-small = omega (arith, len_is, (told_of (expand n) R).3, R.lent.limit)

    room : node_size (variable_count m) * (w.nodes + born) ≤ length nb
    room = omega (arith, len_is, (told_of (expand n) R).3, R.lent.lent, R.lent.counted, nodes-part M B)

    -- What the code asks, with the names that it has for the parts.
    module _ {commands : ℕ} {cs : List ℕ} (q : cs ≡ body m 3) (k : commands ≡ count_of 4 cs) where
      commands-are : commands ≡ (model_of m).commands
      commands-are = k ∙ ap (count_of 4) q

      pub few-commands : commands ≤ most_commands
      few-commands = omega (arith, commands-are, (limits (valid (expand n) R).folder).commands)

      pub born-as : {b : ℕ} → b ≡ children_in cs row commands → b ≡ children_in (body m 3) row (model_of m).commands
      born-as h = rw (commands-are, q) at h

      pub bytes-as : {b : ℕ} → b ≡ edges_in cs row commands → b ≡ edges_in (body m 3) row (model_of m).commands
      bytes-as h = rw (commands-are, q) at h

      module _ {vars : ℕ} {bs : List ℕ} (p : vars ≡ variable_count m) (r : bs ≡ body m 4) where
        pub may-put : ((0 < vars) × (vars ≤ most_variables) × (commands ≤ most_commands) × (records_in cs commands ≤ field_limit) × (n < field_limit))
            × ((w.nodes + children_in cs row commands ≤ field_limit) × ((node_size vars * (w.nodes + children_in cs row commands) ≤ length nb) × BroodFits vars cs bs row commands))
        may-put = rw (p, commands-are, q, r) (
          (variables-some (valid (expand n) R), (limits (valid (expand n) R).folder).variables, (limits (valid (expand n) R).folder).commands, records-few (valid (expand n) R), in_field (expand n) R there),
          (omega (arith, few), (room, brood-fits (valid (expand n) R) stated range)),
        )

        pub brood-as : {new : List ℕ} → Brood vars cs bs row n w.nodes commands nb new → Brood (variable_count m) (body m 3) (body m 4) row n w.nodes (model_of m).commands nb new
        brood-as h = rw (p, commands-are, q, r) at h

    -- The sums that it makes fit.
    module _ {vars size b e : ℕ} (p : vars ≡ variable_count m) (s : size ≡ node_size vars) (x : b ≡ children_in (body m 3) row (model_of m).commands) (y : e ≡ edges_in (body m 3) row (model_of m).commands) where
      sum-small : w.len + (size * b + e) ≤ most_bytes
      sum-small = rw (s, p, x, y) len-small

      pub nodes-fit : size * b < 2 ^ 64
      nodes-fit = omega (arith, sum-small)

      pub added-fit : size * b + e < 2 ^ 64
      added-fit = omega (arith, sum-small)

      pub len-fits : w.len + (size * b + e) < 2 ^ 64
      len-fits = omega (arith, sum-small)

      pub count_fits : w.nodes + b < 2 ^ 64
      count_fits = omega (arith, few)

      pub there-still : n < w.nodes + b
      there-still = omega (arith, there)

      -- Where all edges end then.
      abbrev end : ℕ
      end = w.len + (size * b + e) - (least_bytes + size * (w.nodes + b))

      nodes-within : least_bytes + size * (w.nodes + b) + (edges_before M B w.nodes + e) ≡ w.len + (size * b + e)
      nodes-within = rw (s, p) (omega (arith, R.lent.counted, edges-part M B))

      pub end_is : end ≡ edges_before M B w.nodes + e
      end_is = omega (arith, nodes-within)

      pub size_fits : size * (w.nodes + b) < 2 ^ 64
      size_fits = omega (arith, nodes-within, sum-small)

      pub past_fits : least_bytes + size * (w.nodes + b) < 2 ^ 64
      past_fits = omega (arith, nodes-within, sum-small)

      pub past-within : least_bytes + size * (w.nodes + b) ≤ w.len + (size * b + e)
      past-within = omega (arith, nodes-within)

      -- What moving the beginnings asks.
      pub may-begin : ((n < w.nodes) × (w.nodes + b ≤ length begins) × (end < field4_limit)) × ((i : ℕ) → n < i → i < w.nodes → get_or begins i 0 + e < field4_limit)
      may-begin = (
        (there, omega (arith, few, x, R.rows.2), omega (arith, end_is, nodes-within, sum-small)),
        λ i h l. omega (arith, R.counts.walked i l, edges-within M B i l, nodes-within, sum-small),
      )

      pub one-waits : 1 ≤ w.waiting
      one-waits = waits_one (expand n) R there (told_of (expand n) R).1

      pub waiting-fits : w.waiting - 1 + b < 2 ^ 64
      waiting-fits = omega (arith, waiting_few R.counts, few, x)

    module _ {new : List ℕ} (brood : Brood (variable_count m) (body m 3) (body m 4) row n w.nodes (model_of m).commands nb new) where
      abbrev final : List ℕ
      final = expanded_in (variable_count m) new n w.nodes

      old-field : (f : ℕ) → f < 6 + 2 * variable_count m → (f ≡ kind_field → ⊥) → (f ≡ child_field → ⊥) → (i : ℕ) → i < w.nodes → node_in m final i f ≡ node_in m nb i f
      old-field f l p q i h = expand-other (valid (expand n) R) there brood i f h l (λ e. p) (λ e. q)

      new-field : (f u : ℕ) → ((j : ℕ) → j < born → node_in m final (w.nodes + j) f ≡ u) → (j : ℕ) → j < births M (B.state n) → node_in m final (w.nodes + j) f ≡ u
      new-field f u h j l = h j (omega (arith, born-is))

      parent-low : (i : ℕ) → i < w.nodes + born → parent_in m final i < w.nodes + born
      parent-low i l = go (dec_lt i w.nodes)
        where
          go : Dec (i < w.nodes) → parent_in m final i < w.nodes + born
          go (yes h) = omega (arith, old-field parent_field (omega arith) (λ e. omega arith) (λ e. omega arith) i h, R.bounds.0 i h)
          go (no d) =
              let j : ℕ = i - w.nodes in
              let e : i ≡ w.nodes + j = omega arith in
              let h : parent_in m final i ≡ n = ap (parent_in m final) e ∙ parent_is (valid (expand n) R) there brood j (omega arith) in
              omega (arith, there)

      -- The row of beginnings then.
      abbrev begun : List ℕ
      begun = tab (length begins) (begin_after n w.nodes born bytes (edges_before M B w.nodes + bytes) (row_in begins))

      begun-counts : Counts M (expanding M n B) (w.waiting - 1 + born) (row_in begun)
      begun-counts =
          let c = expand-counts M B R.counts n there (told_of (expand n) R).1 in
          record {
            counted = ap (λ (x : ℕ). w.waiting - 1 + x) born-is ∙ c.counted;
            walked = λ i l.
                get_or-tab 0 (length begins) (begin_after n w.nodes born bytes (edges_before M B w.nodes + bytes) (row_in begins)) i (omega (arith, l, few, born-is, R.rows.2))
                ∙ (λ j. begin_after n w.nodes (born-is j) (bytes-are j) (edges_before M B w.nodes + bytes-are j) (row_in begins) i) ∙ c.walked i l;
          }

      pub expanded : Made m longest w nb (Some (expand n)) (grown_work (w.nodes + born) (w.len + (node_size (variable_count m) * born + bytes)) n (w.waiting - 1 + born) n) final (set marks n 1) reaches begun
      expanded =
          let v = valid (expand n) R in
          let waits = (told_of (expand n) R).1 in
          let T : ToGrow m w nb marks n = R.to_make in
          made (expand n) R (expand-made v there brood stated range R.held.long (omega (arith, K.few)))
          (record {
            counted = len_is ∙ sym (length-expanding M B n there waits);
            read = read-expanding M P B K n there waits (old-field read_field (omega arith) (λ e. omega arith) (λ e. omega arith)) (new-field read_field 0 (read_none v there brood)) R.read;
            parents = parent-expanding M P B K n there waits (old-field parent_field (omega arith) (λ e. omega arith) (λ e. omega arith)) (new-field parent_field n (parent_is v there brood)) R.parents;
            settled = settled-expanding M P B K n there waits T.mended;
            hints = hint-expanding M P B K n there waits (λ l. omega arith) (old-field (hint_field m) (omega (arith, variables-some v)) (λ e. omega arith) (λ e. omega arith))
                (new-field (hint_field m) 0 (hint-none v there brood)) T.hints;
            covering = reach-expanding M P B K n there waits R.covering;
            marked = mark-expanding M P B K n there waits T.marked
                (λ i l z. let a = none-set marks n i (in-marks (expand n) R there) z in (a.1, a.0))
                (λ i l. marked-alone T i (λ e. omega arith)) (λ i l. marked-alone T i (λ e. omega arith));
            next = next-expanding M P B K n there waits (omega arith) T.next;
            counts = begun-counts;
          })
          (record {
            grows = omega arith;
            window = (omega arith, omega (arith, there), omega (arith, there));
            fresh = omega (arith, there, K.few);
            bounds = (parent-low, λ x. omega (arith, R.bounds.1 x));
            rows = (omega (arith, R.rows.0, length-set marks n 1), R.rows.1, omega (arith, R.rows.2, length-tab (length begins) (begin_after n w.nodes born bytes (edges_before M B w.nodes + bytes) (row_in begins))));
          })
          (stays-both (stays_wide (omega arith) brood.stays)
          (stays-both (put-stays (variable_count m) new n kind_field 1 (omega arith) (w.nodes + born) (omega (arith, there)))
          (put-stays (variable_count m) (put_in (variable_count m) new n kind_field 1) n child_field w.nodes (omega arith) (w.nodes + born) (omega (arith, there)))))

      -- With the numbers that the code has worked out.
      module _ {vars size b e : ℕ} (p : vars ≡ variable_count m) (s : size ≡ node_size vars) (x : b ≡ born) (y : e ≡ bytes) where
        pub expanded-as : {w' : Work} {last row : List ℕ} → w' ≡ grown_work (w.nodes + b) (w.len + (size * b + e)) n (w.waiting - 1 + b) n → last ≡ expanded_in vars new n w.nodes
            → row ≡ tab (length begins) (begin_after n w.nodes b e (end p s x y) (row_in begins)) → Made m longest w nb (Some (expand n)) w' last (set marks n 1) reaches row
        expanded-as {w'} {last} {row} N h r =
            let q : row ≡ begun = r ∙ (λ i. tab (length begins) (begin_after n w.nodes (x i) (y i) ((end_is p s x y ∙ ap (λ (k : ℕ). edges_before M B w.nodes + k) y) i) (row_in begins))) in
            subst (Made m longest w nb (Some (expand n)) w' last (set marks n 1) reaches) (sym q)
            (made_as (N ∙ rw (s, p, x, y) refl) (h ∙ ap (λ (z : ℕ). expanded_in z new n w.nodes) p) refl refl expanded)
