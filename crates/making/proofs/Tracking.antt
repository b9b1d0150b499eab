-- The label of node n grows: by a variable, or by what its cover tracks.
-- Assumes nothing.
use Rattle.std.specs.Prelude.{Some}
use Prim.Native.Nat.{ℕ, ◌+◌, ◌*◌, ◌^◌, ◌<◌, ◌≤◌, min, max}
use mathlib.Core.Path.{◌≡◌, refl, sym, ap, ◌∙◌, subst}
use mathlib.Core.Bool.{Bool, true, false, false≢true, ◌&&◌}
use mathlib.Core.List.{List}
use native.Mathlib.Decide.{ℕ_discrete}
use native.Mathlib.Omega.{arith}
use borrow.Author.Tests.{eq-eqb, ne_eqb}
use lib.Dec.{eqb}
use lib.ListN.{length}
use lib.Pow.{pow-lt}
use Rattle.mdp.specs.Kinds.{Kind}
use Rattle.folder.specs.Pick.{pick}
use Rattle.folder.specs.Fields.{field_limit}
use Rattle.folder.specs.Contents.{field}
use Rattle.expressions.specs.Reading.{has_bit}
use Rattle.expressions.specs.Mentions.{union}
use Rattle.expressions.proofs.Bits.{in_left}
use Rattle.model.specs.Layout.{variable_count}
use Rattle.model.specs.Model.{Model, model_of}
use Rattle.model.specs.Valid.{Valid}
use Rattle.model.proofs.Limits.{limits}
use Rattle.graph.specs.Limits.{most_nodes}
use Rattle.graph.specs.Simulation.{node_size, kind_of}
use Rattle.building.specs.Building.{Building, start_set, kind_number}
use Rattle.building.specs.Moves.{Limit, Move, track, adopt, tracking, apply}
use Rattle.building.specs.Near.{Clear, OutOfReach}
use Rattle.building.specs.Counts.{Counts}
use Rattle.building.specs.Working.{MarkRight}
use Rattle.building.proofs.Lengths.{length-tracking}
use Rattle.building.proofs.Counting.{track-counts, adopt-counts}
use Rattle.building.proofs.SetLaws.{union-small}
use Rattle.building.proofs.Working.{read-tracking, settled-tracking, parent-tracking, hint-tracking, reach-tracking, next-tracking, mark-growing, clear-by}
use Rattle.put.specs.Put.{Stays}
use Rattle.held.specs.Held.{kind_field, cover_field, parent_field, read_field, tracked_field, hint_field, field_count, node_in, set_in, held_in, put_in}
use Rattle.held.proofs.FieldLaws.{put-there, union-field, bit-field, set-field}
use Rattle.held.proofs.Made.{counted-in, track-made, adopt-made}
use Rattle.nodes.proofs.Expanded.{variables-some}
use Rattle.wants.specs.Standing.{read_in, parent_in, hint_in, row_in}
use Rattle.work.specs.Working.{limit_of, graph_in, ToRepair, Ready, Made, labelled_work}
use Rattle.work.specs.declared.Work.{Work}
use Rattle.making.specs.Marking.{is_under, MarkedReach}
use Rattle.making.proofs.Moving.{put-stays, working, Knows, valid, keeps, told_of, made}

-- ---- which field a covered node has
covered-by : (a b d : Bool) → pick a Kind.expanded (pick b Kind.covered (pick d Kind.target Kind.waiting)) ≡ Kind.covered → b ≡ true
covered-by true b d e = absurd (let z : ◌≡◌ {A = ℕ} 1 2 = ap kind_number e in omega arith)
covered-by false true d e = refl
covered-by false false true e = absurd (let z : ◌≡◌ {A = ℕ} 3 2 = ap kind_number e in omega arith)
covered-by false false false e = absurd (let z : ◌≡◌ {A = ℕ} 0 2 = ap kind_number e in omega arith)

covered-field : (k : ℕ) → kind_of k ≡ Kind.covered → eqb k 2 ≡ true
unfolding kind_of
covered-field k e = covered-by (eqb k 1) (eqb k 2) (eqb k 3) e

both : (a b : Bool) → a ≡ true → b ≡ true → (a && b) ≡ true
both a b p q = rw (p, q)

-- ---- where marks may lie
low_below : (n parent end i : ℕ) → i < pick (eqb end 0) (min n parent) 0 → (end ≡ 0) × (i < n) × (i < parent)
low_below n parent end i h = go (ℕ_discrete end 0)
  where
    go : Dec (end ≡ 0) → (end ≡ 0) × (i < n) × (i < parent)
    go (yes e) = let q = rw (eq-eqb end 0 e) at h in (e, omega arith, omega arith)
    go (no d) = let q = rw (ne_eqb end 0 d) at h in absurd (omega arith)

low-within : (n parent end : ℕ) → pick (eqb end 0) (min n parent) 0 ≤ n
low-within n parent end = go (ℕ_discrete end 0)
  where
    go : Dec (end ≡ 0) → pick (eqb end 0) (min n parent) 0 ≤ n
    go (yes e) = rw (eq-eqb end 0 e) (omega arith)
    go (no d) = rw (ne_eqb end 0 d) (omega arith)

module _ {m : List ℕ} {longest : ℕ} {w : Work} {nb marks reaches begins : List ℕ} (mv : Move) (R : Ready m longest w nb marks reaches begins (Some mv)) (n : ℕ) (there : n < w.nodes) (u : ℕ) (new : List ℕ)
    (put : new ≡ put_in (variable_count m) nb n tracked_field u) where
  abbrev M : Model
  M = model_of m

  abbrev P : Limit
  P = limit_of longest

  abbrev B : Building
  B = graph_in m w nb

  others : (i f : ℕ) → f < field_count (variable_count m) → (f ≡ tracked_field → ⊥) → node_in m new i f ≡ node_in m nb i f
  others i f l d = ap (λ (bytes : List ℕ). node_in m bytes i f) put ∙ put-there (variable_count m) nb n tracked_field u (omega arith) i f l (λ e. d)

  read_same : read_in m new ≡ read_in m nb
  read_same = λ j i. others i read_field (omega arith) (λ e. omega arith) j

  parent-same : parent_in m new ≡ parent_in m nb
  parent-same = λ j i. others i parent_field (omega arith) (λ e. omega arith) j

  hint-same : hint_in m new ≡ hint_in m nb
  hint-same = λ j i. others i (hint_field m) (omega (arith, variables-some (valid mv R))) (λ e. omega arith) j

  parent-low : (i : ℕ) → i < w.nodes → parent_in m new i < w.nodes
  parent-low = subst (λ (f : ℕ → ℕ). (i : ℕ) → i < w.nodes → f i < w.nodes) (sym parent-same) R.bounds.0

  -- What marking asks.
  pub may-mark : Valid m × ((n < w.nodes) × (w.nodes ≤ most_nodes) × (w.high ≤ w.nodes) × (parent_in m new n < w.nodes) × (row_in reaches n ≤ w.nodes)) × ((most_nodes ≤ length marks) × (most_nodes ≤ length reaches))
  may-mark = (valid mv R, (there, (keeps mv R).few, R.window.0, parent-low n there, R.bounds.1 n), (R.rows.0, R.rows.1))

  -- Whoever is covered by n is seen to be so.
  under-seen : (i : ℕ) → i < w.nodes → B.kind i ≡ Kind.covered → B.cover i ≡ n → is_under (variable_count m) new n i ≡ true
  under-seen i l k c = both (eqb (node_in m new i kind_field) 2) (eqb (node_in m new i cover_field) n)
      (covered-field (node_in m new i kind_field)
      (ap kind_of (others i kind_field (omega arith) (λ e. omega arith)) ∙ sym (counted-in w.nodes Kind.waiting i (kind_of (node_in m nb i kind_field)) l) ∙ k))
      (eq-eqb (node_in m new i cover_field) n (others i cover_field (omega arith) (λ e. omega arith) ∙ sym (counted-in w.nodes 0 i (node_in m nb i cover_field) l) ∙ c))

  module _ (T : ToRepair m w nb marks n) (near : (i : ℕ) → Clear M B n i → OutOfReach M B i mv) {marks' : List ℕ} (G : MarkedReach (variable_count m) new n (parent_in m new n) (row_in reaches n) marks marks') where
    unmarked : (i : ℕ) → i < w.nodes → row_in marks' i ≡ 0 → Clear M B n i × (row_in marks i ≡ 0)
    unmarked i l z =
        let a = G.unmarked i z in (
          clear-by M B n i R.parents l a.1 (λ e. a.2 (e ∙ ap (λ (f : ℕ → ℕ). f n) (sym parent-same)))
              (λ k c. false≢true (sym (a.3 (subst (λ (x : ℕ). i < row_in reaches x) c (R.covering.is i l k))) ∙ under-seen i l k c)),
          a.0,
        )

    grown-marked : (apply M mv B).nodes ≡ w.nodes
        → MarkRight M (apply M mv B) (row_in marks') (pick (eqb (row_in reaches n) 0) (min n (parent_in m new n)) 0) (max w.high (max (max n (parent_in m new n) + 1) (row_in reaches n)))
    grown-marked e = mark-growing M P B (keeps mv R) mv n near e T.marked unmarked
        (λ i h. let a = low_below n (parent_in m new n) (row_in reaches n) i h in G.same i (λ q. omega arith) (λ q. omega arith) (omega (arith, a.0)) ∙ T.marked.below i a.1)
        (λ i h. G.same i (λ q. omega arith) (λ q. omega arith) (omega arith) ∙ T.marked.above i (omega arith))

    pub label-grown : (t : ℕ) → tracking n t B ≡ apply M mv B → ((v : ℕ) → has_bit (B.tracked n) v ≡ true → has_bit t v ≡ true) → t < 2 ^ M.variables → held_in m w.nodes new ≡ apply M mv B
        → Counts M (tracking n t B) w.waiting (row_in begins) → Made m longest w nb (Some mv) (labelled_work w n (parent_in m new n) (row_in reaches n)) new marks' reaches begins
    label-grown t same more small held counts =
        let low : ℕ = pick (eqb (row_in reaches n) 0) (min n (parent_in m new n)) 0 in
        let high : ℕ = max w.high (max (max n (parent_in m new n) + 1) (row_in reaches n)) in
        let K = keeps mv R in
        made mv R held
        (subst (Knows m (working w.nodes w.len w.fresh low high w.next w.waiting) new marks' reaches begins) same (record {
          counted = R.lent.counted ∙ sym (length-tracking M B n t);
          read = rw read_same (read-tracking M P B K n t more small R.read);
          parents = rw parent-same (parent-tracking M P B K n t more small R.parents);
          settled = settled-tracking M P B K n t more small R.settled;
          hints = rw hint-same (hint-tracking M P B K n t more small T.hints);
          covering = reach-tracking M P B K n t more small R.covering;
          marked = subst (λ (C : Building). MarkRight M C (row_in marks') low high) (sym same) (grown-marked (ap (λ (C : Building). C.nodes) (sym same)));
          next = next-tracking M P B K n t more small R.waits;
          counts = counts;
        }))
        (record {
          grows = omega arith;
          window = (omega (arith, low-within n (parent_in m new n) (row_in reaches n)), omega (arith, there, R.window.0, parent-low n there, R.bounds.1 n), R.window.1);
          fresh = R.window.2;
          bounds = (parent-low, R.bounds.1);
          rows = (omega (arith, R.rows.0, G.long), R.rows.1, R.rows.2);
        })
        (subst (λ (bytes : List ℕ). Stays 0 (node_size (variable_count m) * w.nodes) nb bytes) (sym put) (put-stays (variable_count m) nb n tracked_field u (omega arith) w.nodes there))

-- ---- n tracks variable v
module _ {m : List ℕ} {longest : ℕ} {w : Work} {nb marks reaches begins : List ℕ} {n v : ℕ} (R : Ready m longest w nb marks reaches begins (Some (track n v))) where
  abbrev tracked_in : List ℕ
  tracked_in = put_in (variable_count m) nb n tracked_field (union (set_in m nb n) (2 ^ v))

  pub tracked-is : {vars : ℕ} {new : List ℕ} → vars ≡ variable_count m → new ≡ put_in vars nb n tracked_field (union (field (node_size vars) nb n tracked_field) (2 ^ v)) → new ≡ tracked_in
  tracked-is e h = h ∙ ap (λ (x : ℕ). put_in x nb n tracked_field (union (field (node_size x) nb n tracked_field) (2 ^ v))) e

  pub track-grown : {new marks' : List ℕ} → new ≡ tracked_in → MarkedReach (variable_count m) new n (parent_in m new n) (row_in reaches n) marks marks'
      → Made m longest w nb (Some (track n v)) (labelled_work w n (parent_in m new n) (row_in reaches n)) new marks' reaches begins
  track-grown {new} e G =
      let mv : Move = track n v in
      let g = told_of mv R in
      let K = keeps mv R in
      let B : Building = graph_in m w nb in
      let few = (limits (valid mv R).folder).variables in
      let set : set_in m nb n < 2 ^ variable_count m = subst (λ (x : ℕ). x < 2 ^ variable_count m) (counted-in w.nodes (start_set (model_of m)) n (set_in m nb n) g.0) (K.small n g.0) in
      let fits : union (set_in m nb n) (2 ^ v) < field_limit = union-field (set_in m nb n) (2 ^ v) (set-field (variable_count m) (set_in m nb n) few set) (bit-field v (omega (arith, g.1, few))) in
      label-grown mv R n g.0 (union (set_in m nb n) (2 ^ v)) new e R.to_make (λ i c. c) G (union (B.tracked n) (2 ^ v)) refl (λ x h. in_left (B.tracked n) (2 ^ v) x h)
      (union-small (variable_count m) (B.tracked n) (2 ^ v) (K.small n g.0) (pow-lt g.1))
      (ap (held_in m w.nodes) e ∙ track-made m w.nodes nb R.held.long n g.0 v fits) (track-counts (model_of m) B R.counts n v)

-- ---- n tracks what its cover tracks
module _ {m : List ℕ} {longest : ℕ} {w : Work} {nb marks reaches begins : List ℕ} {n : ℕ} (R : Ready m longest w nb marks reaches begins (Some (adopt n))) where
  abbrev cover : ℕ
  cover = node_in m nb n cover_field

  abbrev adopted_in : List ℕ
  adopted_in = put_in (variable_count m) nb n tracked_field (union (set_in m nb n) (set_in m nb cover))

  pub adopted-is : {vars : ℕ} {new : List ℕ} → vars ≡ variable_count m
      → new ≡ put_in vars nb n tracked_field (union (field (node_size vars) nb n tracked_field) (field (node_size vars) nb (field (node_size vars) nb n cover_field) tracked_field)) → new ≡ adopted_in
  adopted-is e h =
      h ∙ ap (λ (x : ℕ). put_in x nb n tracked_field (union (field (node_size x) nb n tracked_field) (field (node_size x) nb (field (node_size x) nb n cover_field) tracked_field))) e

  pub adopt-grown : {new marks' : List ℕ} → new ≡ adopted_in → MarkedReach (variable_count m) new n (parent_in m new n) (row_in reaches n) marks marks'
      → Made m longest w nb (Some (adopt n)) (labelled_work w n (parent_in m new n) (row_in reaches n)) new marks' reaches begins
  adopt-grown {new} e G =
      let mv : Move = adopt n in
      let g = told_of mv R in
      let K = keeps mv R in
      let B : Building = graph_in m w nb in
      let few = (limits (valid mv R).folder).variables in
      let over : B.cover n < w.nodes = (K.covers n g.0 g.1).there in
      let over-is : B.cover n ≡ cover = counted-in w.nodes 0 n cover g.0 in
      let held : cover < w.nodes = omega arith in
      let small : (k : ℕ) → k < w.nodes → set_in m nb k < field_limit = λ k l. set-field (variable_count m) (set_in m nb k) few (subst (λ (x : ℕ). x < 2 ^ variable_count m) (counted-in w.nodes (start_set (model_of m)) k (set_in m nb k) l) (K.small k l)) in
      label-grown mv R n g.0 (union (set_in m nb n) (set_in m nb cover)) new e R.to_make (λ i c. c) G (union (B.tracked n) (B.tracked (B.cover n))) refl
      (λ x h. in_left (B.tracked n) (B.tracked (B.cover n)) x h)
      (union-small (variable_count m) (B.tracked n) (B.tracked (B.cover n)) (K.small n g.0) (K.small (B.cover n) over))
      (ap (held_in m w.nodes) e ∙ adopt-made m w.nodes nb R.held.long n g.0 held (union-field (set_in m nb n) (set_in m nb cover) (small n g.0) (small cover held))) (adopt-counts (model_of m) B R.counts n)
