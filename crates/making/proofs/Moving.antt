-- The move that is next is made: what is left to show, and that the records then hold all that the builder's loop keeps.
-- Assumes nothing.
use Rattle.std.specs.Prelude.{Option, Some}
use Prim.Native.Nat.{ℕ, ◌+◌, ◌*◌, ◌<◌, ◌≤◌, max}
use mathlib.Core.Path.{◌≡◌, sym, ap, subst, transport}
use mathlib.Core.List.{List}
use native.Mathlib.Omega.{arith}
use lib.ListN.{length}
use Rattle.mdp.specs.Kinds.{Kind}
use Rattle.folder.specs.Fields.{field_limit}
use Rattle.model.specs.Layout.{variable_count}
use Rattle.model.specs.Limits.{most_variables}
use Rattle.model.specs.Model.{Model, model_of}
use Rattle.model.specs.Valid.{Valid}
use Rattle.graph.specs.Limits.{least_bytes, most_nodes}
use Rattle.graph.specs.Simulation.{node_size}
use Rattle.building.specs.Building.{Building, births}
use Rattle.building.specs.Length.{graph_length, length_with}
use Rattle.building.specs.Moves.{Limit, Move, track, adopt, drop, cover_by, reach, expand, apply, next_move}
use Rattle.building.specs.Kept.{Kept, Apt, may-track, may-adopt, may-drop, may-cover_by, may-reach, may-expand}
use Rattle.building.specs.Built.{Reached}
use Rattle.building.specs.Counts.{Counts}
use Rattle.building.specs.Working.{ReadRight, ParentRight, Settled, HintRight, ReachRight, MarkRight, NextRight}
use Rattle.building.proofs.Aptness.{next-apt}
use Rattle.building.proofs.Keeping.{kept}
use Rattle.building.proofs.Ending.{reached-by}
use Rattle.building.proofs.Short.{short-kept}
use Rattle.building.proofs.Counting.{some-waits}
use Rattle.put.specs.Put.{Stays}
use Rattle.held.specs.Held.{field_count, put_in, Whole}
use Rattle.held.proofs.FieldLaws.{record-at, whole-at, put-within}
use Rattle.nodes.specs.Told.{told}
use Rattle.nodes.specs.declared.Move.{Move as Found}
use Rattle.wants.specs.Standing.{read_in, parent_in, hint_in, row_in}
use Rattle.work.specs.Working.{limit_of, graph_in, Ready, Made}
use Rattle.work.specs.declared.Work.{Work}
use Rattle.making.specs.Marking.{Present}

-- ---- bytes that stay
pub stays_wide : {a b c : ℕ} {old new : List ℕ} → b ≤ c → Stays a b old new → Stays 0 c old new
stays_wide h s = record { long = s.long; below = λ j l. absurd (omega arith); past = λ j l. s.past j (omega arith) }

-- In the record of a node that is counted.
pub put-stays : (vars : ℕ) (nb : List ℕ) (n f u : ℕ) → f < field_count vars → (nodes : ℕ) → n < nodes → Stays 0 (node_size vars * nodes) nb (put_in vars nb n f u)
put-stays vars nb n f u l nodes h = stays_wide (record-at (node_size vars) n nodes h) (put-within vars nb n f u l)

-- ---- what a move leaves, by other names
abbrev pub working : (nodes len fresh low high next waiting : ℕ) → Work
working nodes len fresh low high next waiting = record { nodes = nodes; len = len; fresh = fresh; low = low; high = high; next = next; waiting = waiting }

pub window-is : {nodes len fresh low low' high high' next next' waiting : ℕ} → low ≡ low' → high ≡ high' → next ≡ next'
    → working nodes len fresh low high next waiting ≡ working nodes len fresh low' high' next' waiting
window-is {nodes} {len} {fresh} {waiting = waiting} p q r = λ i. working nodes len fresh (p i) (q i) (r i) waiting

module _ {m nb : List ℕ} {longest : ℕ} {w : Work} {o : Option Move} where
  pub made_as : {w' w'' : Work} {nb' nb'' marks' marks'' reaches' reaches'' begins' : List ℕ} → w'' ≡ w' → nb'' ≡ nb' → marks'' ≡ marks' → reaches'' ≡ reaches'
      → Made m longest w nb o w' nb' marks' reaches' begins' → Made m longest w nb o w'' nb'' marks'' reaches'' begins'
  made_as {begins' = begins'} p q r s h = transport (λ i. Made m longest w nb o (sym p i) (sym q i) (sym r i) (sym s i) begins') h

-- ---- what a move that may be made tells of its node
abbrev pub Given : Model → Limit → Building → Move → Type 0
Given M P B (track n v) = (n < B.nodes) × (v < M.variables)
Given M P B (adopt n) = (n < B.nodes) × (B.kind n ≡ Kind.covered)
Given M P B (drop n) = (n < B.nodes) × (B.kind n ≡ Kind.covered)
Given M P B (cover_by n c) = (n < B.nodes) × (B.kind n ≡ Kind.waiting) × (c < B.nodes)
Given M P B (reach n) = (n < B.nodes) × (B.kind n ≡ Kind.waiting)
Given M P B (expand n) = (n < B.nodes) × (B.kind n ≡ Kind.waiting) × (B.nodes + births M (B.state n) ≤ P.most) × (length_with M B n ≤ P.longest)

given : {M : Model} {P : Limit} {B : Building} (mv : Move) → Apt M P B mv → Given M P B mv
given mv (may-track l k u) = (l, k)
given mv (may-adopt v l c k t u) = (l, c)
given mv (may-drop l c x) = (l, c)
given mv (may-cover_by l w k o x) = (l, w, k)
given mv (may-reach l w t) = (l, w)
given mv (may-expand l w t room fits) = (l, w, room, fits)

-- ---- what is to be shown of the building C that the move makes, and of the rows
pub record Knows (m : List ℕ) (w : Work) (nb marks reaches begins : List ℕ) (C : Building) : Type 0 where
  pub counted : w.len ≡ graph_length (model_of m) C
  pub read : ReadRight (model_of m) C (read_in m nb)
  pub parents : ParentRight (model_of m) C (parent_in m nb)
  pub settled : Settled (model_of m) C w.fresh
  pub hints : HintRight (model_of m) C (hint_in m nb) w.fresh
  pub covering : ReachRight (model_of m) C (row_in reaches)
  pub marked : MarkRight (model_of m) C (row_in marks) w.low w.high
  pub next : NextRight (model_of m) C w.next
  pub counts : Counts (model_of m) C w.waiting (row_in begins)

pub record Within (m : List ℕ) (old : ℕ) (w : Work) (nb marks reaches begins : List ℕ) : Type 0 where
  pub grows : old ≤ w.nodes
  pub window : (w.low ≤ w.high) × (w.high ≤ w.nodes) × (w.next ≤ w.nodes)
  pub fresh : w.fresh ≤ most_nodes
  pub bounds : ((i : ℕ) → i < w.nodes → parent_in m nb i < w.nodes) × ((x : ℕ) → row_in reaches x ≤ w.nodes)
  pub rows : (most_nodes ≤ length marks) × (most_nodes ≤ length reaches) × (most_nodes ≤ length begins)

-- The nodes take part of the length.
nodes-within : (M : Model) (C : Building) (nodes : ℕ) → C.nodes ≡ nodes → {l : ℕ} → graph_length M C ≤ least_bytes + l → node_size M.variables * nodes ≤ l
unfolding graph_length
nodes-within M C nodes e h = rw (← e) (omega arith)

module _ {m : List ℕ} {longest : ℕ} {w : Work} {nb marks reaches begins : List ℕ} (mv : Move) (R : Ready m longest w nb marks reaches begins (Some mv)) where
  abbrev M : Model
  M = model_of m

  abbrev P : Limit
  P = limit_of longest

  abbrev B : Building
  B = graph_in m w nb

  pub valid : Valid m
  valid = R.held.model

  pub keeps : Kept M most_nodes B
  keeps = R.held.kept

  next-move : next_move M P B ≡ Some mv
  next-move = sym R.next

  apt : Apt M P B mv
  apt = next-apt M P valid.model B keeps mv next-move

  pub told_of : Given M P B mv
  told_of = given mv apt

  -- What the code asks of a node that is counted.
  module _ {n : ℕ} (l : n < w.nodes) where
    pub in_field : n < field_limit
    in_field = omega (arith, l, keeps.few)

    pub in-marks : n < length marks
    in-marks = omega (arith, l, keeps.few, R.rows)

    pub in-reaches : n < length reaches
    in-reaches = omega (arith, l, keeps.few, R.rows)

    pub reach-fits : (c : ℕ) {u x : ℕ} → u ≡ max x (n + 1) → x ≡ row_in reaches c → u < field_limit
    reach-fits c e q = omega (arith, l, keeps.few, R.bounds.1 c)

    pub record-there : {vars : ℕ} → vars ≡ variable_count m → Whole vars nb n
    record-there e = subst (λ (v : ℕ). Whole v nb n) (sym e) (whole-at (variable_count m) nb n w.nodes l R.held.long)

    pub one-waits : B.kind n ≡ Kind.waiting → 1 ≤ w.waiting
    one-waits k = some-waits M B R.counts n l k

    pub present : {vars : ℕ} → vars ≡ variable_count m → vars ≤ most_variables → Present vars w nb marks n
    present e v = record { variables = v; within = l; few = keeps.few; whole = record-there e; marks-long = R.rows.0 }

  after_kept : Kept M most_nodes (apply M mv B)
  after_kept = kept M P valid.model B keeps mv apt

  after-short : graph_length M (apply M mv B) ≤ longest
  after-short = short-kept M P B mv apt (rw (← R.lent.counted) R.lent.short)

  pub made : {w' : Work} {nb' marks' reaches' begins' : List ℕ} → graph_in m w' nb' ≡ apply M mv B → Knows m w' nb' marks' reaches' begins' (apply M mv B)
      → Within m w.nodes w' nb' marks' reaches' begins' → Stays 0 (node_size (variable_count m) * w'.nodes) nb nb' → Made m longest w nb (Some mv) w' nb' marks' reaches' begins'
  made {w'} {nb'} {marks'} {reaches'} {begins'} e f h s =
      let k : Knows m w' nb' marks' reaches' begins' (graph_in m w' nb') = subst (Knows m w' nb' marks' reaches' begins') (sym e) f in
      record {
        is = e;
        working = record {
          held = record {
            model = valid;
            kept = subst (Kept M most_nodes) (sym e) after_kept;
            long = nodes-within M (apply M mv B) w'.nodes (ap (λ (C : Building). C.nodes) (sym e)) (omega (arith, after-short, R.lent.lent, s.long));
          };
          reached = subst (Reached M P) (sym e) (reached-by M P mv R.reached next-move);
          lent = record {
            counted = k.counted;
            short = omega (arith, f.counted, after-short);
            lent = omega (arith, R.lent.lent, s.long);
            limit = R.lent.limit;
          };
          known = record {
            read = k.read;
            parents = k.parents;
            settled = k.settled;
            hints = k.hints;
            covering = k.covering;
            marked = k.marked;
            next = k.next;
            counts = k.counts;
            window = h.window;
            fresh = h.fresh;
            bounds = h.bounds;
            rows = h.rows;
          };
        };
        grows = h.grows;
        stays = s;
      }

-- ---- the move that the code was told
pub ready_by : {m : List ℕ} {longest : ℕ} {w : Work} {nb marks reaches begins : List ℕ} {found is : Found} → found ≡ is
    → Ready m longest w nb marks reaches begins (Some (told found)) → Ready m longest w nb marks reaches begins (Some (told is))
ready_by {m} {longest} {w} {nb} {marks} {reaches} {begins} e h = subst (λ (f : Found). Ready m longest w nb marks reaches begins (Some (told f))) e h

pub made_by : {m : List ℕ} {longest : ℕ} {w w' : Work} {nb nb' marks' reaches' begins' : List ℕ} {found is : Found} → found ≡ is
    → Made m longest w nb (Some (told is)) w' nb' marks' reaches' begins' → Made m longest w nb (Some (told found)) w' nb' marks' reaches' begins'
made_by {m} {longest} {w} {w'} {nb} {nb'} {marks'} {reaches'} {begins'} e h = subst (λ (f : Found). Made m longest w nb (Some (told f)) w' nb' marks' reaches' begins') (sym e) h
