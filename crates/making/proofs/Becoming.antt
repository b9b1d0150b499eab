-- A kind changes: node n waits again, becomes a target, or is covered.
-- Assumes nothing.
use Rattle.std.specs.Prelude.{Some}
use Prim.Native.Nat.{ℕ, ◌+◌, ◌-◌, ◌*◌, ◌<◌, ◌≤◌, min, max}
use mathlib.Core.Path.{◌≡◌, refl, sym, ap, ◌∙◌, subst}
use mathlib.Core.Bool.{false≢true}
use mathlib.Core.List.{List}
use native.Mathlib.Decide.{dec_lt, ℕ_discrete}
use native.Mathlib.Omega.{arith}
use lib.ListN.{length, get_or, set, length-set}
use lib.Seq.{get_or-set_same, get_or-set_other}
use Rattle.mdp.specs.Kinds.{Kind}
use Rattle.folder.specs.Fields.{field_limit}
use Rattle.model.specs.Layout.{variable_count}
use Rattle.model.specs.Model.{Model, model_of}
use Rattle.model.specs.Valid.{Valid}
use Rattle.graph.specs.Limits.{most_nodes}
use Rattle.graph.specs.Simulation.{node_size}
use Rattle.building.specs.First.{put}
use Rattle.building.specs.Building.{Building, kind_number, if_expanded}
use Rattle.building.specs.Moves.{Move, drop, cover_by, reach, apply, becoming}
use Rattle.building.specs.Counts.{Counts}
use Rattle.building.specs.Working.{Settled, HintRight, ReachRight, MarkRight, NextRight}
use Rattle.building.specs.Near.{OutOfReach}
use Rattle.building.proofs.FirstLaws.{put-at, put_other}
use Rattle.building.proofs.Lengths.{length-becoming}
use Rattle.building.proofs.Counting.{drop-counts, cover-counts, reach-counts}
use Rattle.building.proofs.Working.{read-becoming, settled-becoming, parent-becoming, hint-becoming, reach-becoming, next-becoming, mark-becoming, all_settled, hint-put}
use Rattle.put.specs.Put.{Stays}
use Rattle.put.proofs.PutLaws.{stays-both}
use Rattle.held.specs.Held.{kind_field, cover_field, parent_field, read_field, hint_field, field_count, node_in, held_in, put_in, become_in, Whole}
use Rattle.held.proofs.FieldLaws.{put-here, put-there}
use Rattle.held.proofs.Made.{become-other, become-long, drop-made, cover-made, reach-made, held_same}
use Rattle.nodes.proofs.Expanded.{variables-some}
use Rattle.wants.specs.Standing.{read_in, parent_in, hint_in, row_in}
use Rattle.work.specs.Working.{limit_of, graph_in, Ready, Made, ToGrow, grown_work, dropped_work}
use Rattle.work.specs.declared.Work.{Work}
use Rattle.making.proofs.Marks.{none-set}
use Rattle.making.proofs.Lowest.{lowest}
use Rattle.making.proofs.Moving.{put-stays, working, Knows, valid, keeps, told_of, in_field, in-marks, in-reaches, record-there, made}

not-expanded : {κ k : Kind} → κ ≡ k → if_expanded k 1 ≡ 0 → if_expanded κ 1 ≡ 0
not-expanded e h = ap (λ (κ : Kind). if_expanded κ 1) e ∙ h

other-kind : {κ k : Kind} → (kind_number κ ≡ kind_number k → ⊥) → κ ≡ k → {A : Type 0} → A
other-kind d e = absurd (d (ap kind_number e))

-- ---- the fields that stay
module _ (m old new : List ℕ) (others : (i f : ℕ) → f < field_count (variable_count m) → (f ≡ kind_field → ⊥) → (f ≡ cover_field → ⊥) → (f ≡ hint_field m → ⊥) → node_in m new i f ≡ node_in m old i f) where
  read_same : read_in m new ≡ read_in m old
  read_same = λ j i. others i read_field (omega arith) (λ e. omega arith) (λ e. omega arith) (λ e. omega arith) j

  parent-same : parent_in m new ≡ parent_in m old
  parent-same = λ j i. others i parent_field (omega arith) (λ e. omega arith) (λ e. omega arith) (λ e. omega arith) j

  parent-low : (nodes : ℕ) → ((i : ℕ) → i < nodes → parent_in m old i < nodes) → (i : ℕ) → i < nodes → parent_in m new i < nodes
  parent-low nodes h = subst (λ (f : ℕ → ℕ). (i : ℕ) → i < nodes → f i < nodes) (sym parent-same) h

-- Kind and cover alone are written.
module _ (m nb : List ℕ) (n k c : ℕ) where
  abbrev vars : ℕ
  vars = variable_count m

  kind-others : (i f : ℕ) → f < field_count vars → (f ≡ kind_field → ⊥) → (f ≡ cover_field → ⊥) → (f ≡ hint_field m → ⊥) → node_in m (become_in vars nb n k c) i f ≡ node_in m nb i f
  kind-others i f l p q h = become-other vars nb n k c i f l (λ e. p) (λ e. q)

  hint-same : Valid m → hint_in m (become_in vars nb n k c) ≡ hint_in m nb
  hint-same v = λ j i. become-other vars nb n k c i (hint_field m) (omega (arith, variables-some v)) (λ e z. omega arith) (λ e z. omega arith) j

  kind-stays : (nodes : ℕ) → n < nodes → Stays 0 (node_size vars * nodes) nb (become_in vars nb n k c)
  kind-stays nodes l =
      stays-both (put-stays vars nb n kind_field k (omega arith) nodes l) (put-stays vars (put_in vars nb n kind_field k) n cover_field c (omega arith) nodes l)

-- ---- node n is not expanded, neither before nor after
module _ {m : List ℕ} {longest : ℕ} {w : Work} {nb marks reaches begins : List ℕ} (mv : Move) (R : Ready m longest w nb marks reaches begins (Some mv)) (n : ℕ) (κ : Kind) (c : ℕ)
    (same : becoming n κ c (graph_in m w nb) ≡ apply (model_of m) mv (graph_in m w nb)) (was : if_expanded ((graph_in m w nb).kind n) 1 ≡ 0) (is : if_expanded κ 1 ≡ 0) (new : List ℕ)
    (others : (i f : ℕ) → f < field_count (variable_count m) → (f ≡ kind_field → ⊥) → (f ≡ cover_field → ⊥) → (f ≡ hint_field m → ⊥) → node_in m new i f ≡ node_in m nb i f) where
  abbrev M : Model
  M = model_of m

  abbrev B : Building
  B = graph_in m w nb

  abbrev U : Building
  U = becoming n κ c B

  later : κ ≡ Kind.expanded → ⊥
  later e = let z : ◌≡◌ {A = ℕ} 1 0 = sym (ap (λ (k : Kind). if_expanded k 1) e) ∙ is in omega arith

  kind-changed : (fresh low high next waiting : ℕ) {marks' reaches' : List ℕ} → held_in m w.nodes new ≡ apply M mv B
      → Settled M B fresh → HintRight M U (hint_in m new) fresh → ReachRight M U (row_in reaches') → MarkRight M U (row_in marks') low high → NextRight M U next → Counts M U waiting (row_in begins)
      → (low ≤ high) × (high ≤ w.nodes) × (next ≤ w.nodes) × (fresh ≤ most_nodes) → ((x : ℕ) → row_in reaches' x ≤ w.nodes) → length marks' ≡ length marks → length reaches' ≡ length reaches
      → Stays 0 (node_size (variable_count m) * w.nodes) nb new
      → Made m longest w nb (Some mv) (working w.nodes w.len fresh low high next waiting) new marks' reaches' begins
  kind-changed fresh low high next waiting {marks'} {reaches'} held s h r k x counts window bound long longer stays = made mv R held
      (subst (Knows m (working w.nodes w.len fresh low high next waiting) new marks' reaches' begins) same (record {
        counted = R.lent.counted ∙ sym (length-becoming M B n κ c was is);
        read = rw (read_same m nb new others) (read-becoming M B n κ c later R.read);
        parents = rw (parent-same m nb new others) (parent-becoming M B n κ c later R.parents);
        settled = settled-becoming M B n κ c later s;
        hints = h;
        covering = r;
        marked = k;
        next = x;
        counts = counts;
      }))
      (record {
        grows = omega arith;
        window = (window.0, window.1, window.2);
        fresh = window.3;
        bounds = (parent-low m nb new others w.nodes R.bounds.0, bound);
        rows = (omega (arith, R.rows.0), omega (arith, R.rows.1), R.rows.2);
      })
      stays

-- ---- n's cover is dropped
module _ {m : List ℕ} {longest : ℕ} {w : Work} {nb marks reaches begins : List ℕ} {n : ℕ} (R : Ready m longest w nb marks reaches begins (Some (drop n))) where
  drop-unmarked : (i : ℕ) → max w.high n ≤ i → Dec (i ≡ n) → row_in (set marks n 0) i ≡ 0
  drop-unmarked i h (yes e) =
      ap (λ (j : ℕ). get_or (set marks n 0) j 0) e ∙ get_or-set_same marks n 0 0 (in-marks (drop n) R (told_of (drop n) R).0)
  drop-unmarked i h (no d) = get_or-set_other marks n i 0 0 d ∙ R.to_make.marked.above i (omega arith)

  pub dropped : Made m longest w nb (Some (drop n)) (dropped_work w n) (become_in (variable_count m) nb n 0 0) (set marks n 0) reaches begins
  dropped =
      let g = told_of (drop n) R in
      let B : Building = graph_in m w nb in
      let later : Kind.waiting ≡ Kind.expanded → ⊥ = λ e. other-kind (λ z. omega arith) e in
      kind-changed (drop n) R n Kind.waiting 0 refl (not-expanded g.1 refl) refl (become_in (variable_count m) nb n 0 0) (kind-others m nb n 0 0) w.fresh n (max w.high n) (min w.next n) (w.waiting + 1)
      (drop-made m w.nodes nb R.held.long n g.0)
      R.settled
      (rw (hint-same m nb n 0 0 (valid (drop n) R)) (hint-becoming (model_of m) B n Kind.waiting 0 later (λ e. absurd (false≢true e)) (λ l. refl) R.to_make.hints))
      (reach-becoming (model_of m) B n Kind.waiting 0 later (λ e. other-kind (λ z. omega arith) e) (λ x. omega arith) R.covering)
      (mark-becoming (model_of m) B n Kind.waiting 0 later (limit_of longest) (keeps (drop n) R) (drop n) refl (λ i d. d) R.to_make.marked
      (λ i l z. (λ e. refl, λ d. sym (get_or-set_other marks n i 0 0 d) ∙ z))
      (λ i l. get_or-set_other marks n i 0 0 (λ e. omega arith) ∙ R.to_make.marked.below i l)
      (λ i h. drop-unmarked i h (ℕ_discrete i n)))
      (next-becoming (model_of m) B n Kind.waiting 0 later (omega arith) (λ e. omega arith) R.waits)
      (drop-counts (model_of m) B R.counts n g.0 g.1)
      (omega arith, omega (arith, R.window.0, g.0), omega (arith, R.window.1), R.window.2)
      R.bounds.1
      (length-set marks n 0)
      refl
      (kind-stays m nb n 0 0 w.nodes g.0)

-- ---- n, which waited, goes on: nothing was marked, and it alone is then
module _ {m : List ℕ} {w : Work} {nb marks : List ℕ} {n : ℕ} (T : ToGrow m w nb marks n) where
  nothing-marked : (i : ℕ) → row_in marks i ≡ 0
  nothing-marked i = go (dec_lt i w.high)
    where
      go : Dec (i < w.high) → row_in marks i ≡ 0
      go (yes l) = T.marked.below i l
      go (no d) = T.marked.above i (omega arith)

  pub marked-alone : (i : ℕ) → (i ≡ n → ⊥) → row_in (set marks n 1) i ≡ 0
  marked-alone i d = get_or-set_other marks n i 1 0 d ∙ nothing-marked i

-- Its kind, where it is not expanded.
module _ {m : List ℕ} {longest : ℕ} {w : Work} {nb marks reaches begins : List ℕ} {n : ℕ} {mv : Move} (R : Ready m longest w nb marks reaches begins (Some mv)) (T : ToGrow m w nb marks n)
    (l : n < w.nodes) (κ : Kind) (c : ℕ) (later : κ ≡ Kind.expanded → ⊥) (same : apply (model_of m) mv (graph_in m w nb) ≡ becoming n κ c (graph_in m w nb))
    (near : (i : ℕ) → (i ≡ n → ⊥) → OutOfReach (model_of m) (graph_in m w nb) i mv) where
  alone-marked : MarkRight (model_of m) (becoming n κ c (graph_in m w nb)) (row_in (set marks n 1)) n (n + 1)
  alone-marked = mark-becoming (model_of m) (graph_in m w nb) n κ c later (limit_of longest) (keeps mv R) mv same near T.marked
      (λ i p z. let a = none-set marks n i (in-marks mv R l) z in (λ e. absurd (a.1 e), λ d. a.0))
      (λ i p. marked-alone T i (λ e. omega arith))
      (λ i p. marked-alone T i (λ e. omega arith))

-- ---- n becomes a target
module _ {m : List ℕ} {longest : ℕ} {w : Work} {nb marks reaches begins : List ℕ} {n : ℕ} (R : Ready m longest w nb marks reaches begins (Some (reach n))) where
  pub targeted : Made m longest w nb (Some (reach n)) (grown_work w.nodes w.len n (w.waiting - 1) n) (become_in (variable_count m) nb n 3 0) (set marks n 1) reaches begins
  targeted =
      let g = told_of (reach n) R in
      let B : Building = graph_in m w nb in
      let later : Kind.target ≡ Kind.expanded → ⊥ = λ e. other-kind (λ z. omega arith) e in
      kind-changed (reach n) R n Kind.target 0 refl (not-expanded g.1 refl) refl (become_in (variable_count m) nb n 3 0) (kind-others m nb n 3 0) n n (n + 1) n (w.waiting - 1)
      (reach-made m w.nodes nb R.held.long n g.0)
      (all_settled (model_of m) B R.to_make.mended n)
      (rw (hint-same m nb n 3 0 (valid (reach n) R)) (hint-becoming (model_of m) B n Kind.target 0 later (λ e. refl) (λ l. absurd (omega arith)) R.to_make.hints))
      (reach-becoming (model_of m) B n Kind.target 0 later (λ e. other-kind (λ z. omega arith) e) (λ x. omega arith) R.covering)
      (alone-marked R R.to_make g.0 Kind.target 0 later refl (λ i d. d))
      (next-becoming (model_of m) B n Kind.target 0 later (omega arith) (λ e. omega arith) R.to_make.next)
      (reach-counts (model_of m) B R.counts n g.0 g.1)
      (omega arith, omega (arith, g.0), omega (arith, g.0), omega (arith, g.0, (keeps (reach n) R).few))
      R.bounds.1
      (length-set marks n 1)
      refl
      (kind-stays m nb n 3 0 w.nodes g.0)

-- ---- n is covered by c
module _ (m nb : List ℕ) (n c : ℕ) (some-variable : 0 < variable_count m) where
  abbrev mid : List ℕ
  mid = become_in (variable_count m) nb n 2 c

  abbrev last : List ℕ
  last = put_in (variable_count m) mid n (hint_field m) c

  hint-there : hint_field m < field_count (variable_count m)
  hint-there = omega arith

  cover-others : (i f : ℕ) → f < field_count (variable_count m) → (f ≡ kind_field → ⊥) → (f ≡ cover_field → ⊥) → (f ≡ hint_field m → ⊥) → node_in m last i f ≡ node_in m nb i f
  cover-others i f l p q h = put-there (variable_count m) mid n (hint_field m) c hint-there i f l (λ e. h) ∙ kind-others m nb n 2 c i f l p q h

  cover-stays : (nodes : ℕ) → n < nodes → Stays 0 (node_size (variable_count m) * nodes) nb last
  cover-stays nodes l = stays-both (kind-stays m nb n 2 c nodes l) (put-stays (variable_count m) mid n (hint_field m) c hint-there nodes l)

  module _ (valid-here : Valid m) (whole : Whole (variable_count m) nb n) (small : c < field_limit) where
    cover-hint : hint_in m last ≡ put n c (hint_in m nb)
    cover-hint = λ j i. at i (ℕ_discrete i n) j
      where
        at : (i : ℕ) → Dec (i ≡ n) → hint_in m last i ≡ put n c (hint_in m nb) i
        at i (yes e) =
            ap (hint_in m last) e ∙ put-here (variable_count m) mid n (hint_field m) c hint-there (omega (arith, whole, become-long (variable_count m) nb n 2 c)) small
            ∙ sym (put-at n c (hint_in m nb) i e)
        at i (no d) =
            put-there (variable_count m) mid n (hint_field m) c hint-there i (hint_field m) hint-there (λ e h. d e)
            ∙ ap (λ (f : ℕ → ℕ). f i) (hint-same m nb n 2 c valid-here) ∙ sym (put_other n c (hint_in m nb) i d)

  cover-held : (nodes : ℕ) → node_size (variable_count m) * nodes ≤ length nb → n < nodes → c < field_limit → held_in m nodes last ≡ apply (model_of m) (cover_by n c) (held_in m nodes nb)
  cover-held nodes long l small =
      held_same m nodes mid last (λ i h f p a b. put-there (variable_count m) mid n (hint_field m) c hint-there i f (omega arith) (λ e z. omega arith))
      ∙ cover-made m nodes nb long n l c small

-- The row of what is covered by whom.
module _ (row : List ℕ) (c u : ℕ) (there : c < length row) where
  row_at : row_in (set row c u) c ≡ u
  row_at = get_or-set_same row c u 0 there

  row-all : (Q : ℕ → Type 0) (x : ℕ) → (x ≡ c → Q u) → Q (row_in row x) → Q (row_in (set row c u) x)
  row-all Q x h g = go (ℕ_discrete x c)
    where
      go : Dec (x ≡ c) → Q (row_in (set row c u) x)
      go (yes e) = subst Q (sym (ap (row_in (set row c u)) e ∙ row_at)) (h e)
      go (no d) = subst Q (sym (get_or-set_other row c x u 0 d)) g

module _ {m : List ℕ} {longest : ℕ} {w : Work} {nb marks reaches begins : List ℕ} {n c : ℕ} (R : Ready m longest w nb marks reaches begins (Some (cover_by n c))) where
  pub covered : Made m longest w nb (Some (cover_by n c)) (grown_work w.nodes w.len most_nodes (w.waiting - 1) n) (put_in (variable_count m) (become_in (variable_count m) nb n 2 c) n (hint_field m) c) (set marks n 1) (set reaches c (max (row_in reaches c) (n + 1))) begins
  covered =
      let mv : Move = cover_by n c in
      let g = told_of mv R in
      let B : Building = graph_in m w nb in
      let v = variables-some (valid mv R) in
      let small : c < field_limit = in_field mv R g.2 in
      let row : c < length reaches = in-reaches mv R g.2 in
      let later : Kind.covered ≡ Kind.expanded → ⊥ = λ e. other-kind (λ z. omega arith) e in
      kind-changed mv R n Kind.covered c refl (not-expanded g.1 refl) refl (last m nb n c v) (cover-others m nb n c v) most_nodes n (n + 1) n (w.waiting - 1)
      (cover-held m nb n c v w.nodes R.held.long g.0 small)
      (all_settled (model_of m) B R.to_make.mended most_nodes)
      (rw (cover-hint m nb n c v (valid mv R) (record-there mv R g.0 refl) small)
      (hint-becoming (model_of m) B n Kind.covered c later (λ e. absurd (false≢true e)) (λ l. absurd (omega arith))
      (hint-put (model_of m) B n c (omega (arith, g.2)) (lowest (model_of m) (limit_of longest) B n c R.to_make.mended (sym R.next)) R.to_make.hints)))
      (reach-becoming (model_of m) B n Kind.covered c later (λ e. rw (row_at reaches c (max (row_in reaches c) (n + 1)) row) (omega arith))
      (λ x. row-all reaches c (max (row_in reaches c) (n + 1)) row (λ (u : ℕ). row_in reaches x ≤ u) x (λ e. rw e (omega arith)) (omega arith)) R.covering)
      (alone-marked R R.to_make g.0 Kind.covered c later refl (λ i d. d))
      (next-becoming (model_of m) B n Kind.covered c later (omega arith) (λ e. omega arith) R.to_make.next)
      (cover-counts (model_of m) B R.counts n g.0 g.1 c)
      (omega arith, omega (arith, g.0), omega (arith, g.0), omega arith)
      (λ x. row-all reaches c (max (row_in reaches c) (n + 1)) row (λ (u : ℕ). u ≤ w.nodes) x (λ e. omega (arith, R.bounds.1 c, g.0)) (R.bounds.1 x))
      (length-set marks n 1)
      (length-set reaches c (max (row_in reaches c) (n + 1)))
      (cover-stays m nb n c v w.nodes g.0)
