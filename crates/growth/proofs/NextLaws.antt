-- The next move: a repair that is found, or what becomes of the lowest node that waits; and what either leaves.
-- Assumes nothing.
use Rattle.std.specs.Prelude.{Option, None, Some}
use Prim.Native.Nat.{ℕ, ◌<◌, ◌≤◌}
use mathlib.Core.Path.{◌≡◌, refl, sym, ap, ◌∙◌, subst}
use mathlib.Core.Logic.{◌⊎◌, inl, inr}
use mathlib.Core.Bool.{Bool, true, false}
use mathlib.Core.List.{List}
use native.Mathlib.Omega.{arith}
use lib.ListN.{length}
use Rattle.mdp.specs.Kinds.{Kind}
use Rattle.folder.specs.Pick.{pick}
use Rattle.expressions.specs.Meaning.{truth_in}
use Rattle.model.specs.Model.{Model, model_of}
use Rattle.model.specs.Valid.{Valid}
use Rattle.graph.specs.Limits.{most_nodes}
use Rattle.building.specs.First.{◌orelse◌, given, onward, first}
use Rattle.building.specs.Building.{Building}
use Rattle.building.specs.Length.{graph_length, waiting_count}
use Rattle.building.specs.Moves.{Limit, Move, track, adopt, drop, cover_by, reach, expand, truth_wants, expanded_wants, covered, adopted, repair_as, repair, waits, lowest_waiting, lowest_cover, room, opening, growth, next_move}
use Rattle.building.specs.Kept.{Kept, Mended}
use Rattle.building.specs.Working.{ReadRight, HintRight, MarkRight, NextRight}
use Rattle.building.proofs.FirstLaws.{nothing, orelse-some, given-some, first-none, first-least, first_some, onward-some}
use Rattle.put.proofs.PutLaws.{stays-both}
use Rattle.held.specs.Held.{parent_field, read_field, hint_field, held_in}
use Rattle.nodes.proofs.Expanded.{variables-some}
use Rattle.wants.specs.Standing.{read_in, hint_in, row_in, Held, Reread, node_of}
use Rattle.work.specs.declared.Work.{Work}
use Rattle.work.specs.Working.{graph_in, Lent, Looked, ToRepair, ToGrow, ToMake}
use Rattle.growth.specs.Hints.{HintsSettled}

-- ---- what is there
some_same : {A : Type 0} {a b : A} → Some a ≡ Some b → a ≡ b
some_same e = cc

-- ---- which moves repair node n, and which grow it
module _ (T : Move → Type 0) {mv : Move} (n : ℕ) where
  told-so : {o : Move} → T o → Some o ≡ Some mv → T mv
  told-so t e = subst T (some_same e) t

  module _ (tracks : (v : ℕ) → T (track n v)) where
    wanted : (o : Option ℕ) → onward o (λ v. Some (track n v)) ≡ Some mv → T mv
    wanted o e =
        let p = onward-some o (λ v. Some (track n v)) mv e in
        told-so (tracks p.0) p.2

    module _ (adopts : T (adopt n)) (drops : T (drop n)) where
      fault : (a b : Bool) → pick a (pick b None (Some (adopt n))) (Some (drop n)) ≡ Some mv → T mv
      fault true true e = nothing e
      fault true false e = told-so adopts e
      fault false b e = told-so drops e

      pub repair-moves : (M : Model) (B : Building) (κ : Kind) → repair_as M B n κ ≡ Some mv → T mv
      repair-moves M B Kind.waiting e = nothing e
      repair-moves M B Kind.expanded e = wanted (expanded_wants M B n) e
      repair-moves M B Kind.covered e = fault (covered M B n) (adopted M B n) e
      repair-moves M B Kind.target e = wanted (truth_wants M B n M.target) e

  module _ (covers : (c : ℕ) → T (cover_by n c)) (reaches : T (reach n)) (expands : T (expand n)) where
    opened : (a b : Bool) → pick a (Some (reach n)) (given b (Some (expand n))) ≡ Some mv → T mv
    opened true b e = told-so reaches e
    opened false b e = told-so expands (given-some b (Some (expand n)) mv e).1

    pub growth-moves : (M : Model) (P : Limit) (B : Building) → growth M P B n ≡ Some mv → T mv
    unfolding opening
    growth-moves M P B e = go (orelse-some (onward (lowest_cover M B n) (λ c. Some (cover_by n c))) (opening M P B n) mv e)
      where
        go : (onward (lowest_cover M B n) (λ c. Some (cover_by n c)) ≡ Some mv) ⊎ (opening M P B n ≡ Some mv) → T mv
        go (inl h) =
            let p = onward-some (lowest_cover M B n) (λ c. Some (cover_by n c)) mv h in
            told-so (covers p.0) p.2
        go (inr h) = opened (truth_in M.entries (B.state n) M.target) (room M P B n) h

-- A kind that waits is there.
waits-so : (κ : Kind) (n : ℕ) → κ ≡ Kind.waiting → waits κ n ≡ None → ⊥
waits-so κ n k e = nothing (sym e ∙ ap (λ (x : Kind). waits x n) k)

waits-own : (κ : Kind) (n k : ℕ) → waits κ n ≡ Some k → n ≡ k
waits-own Kind.waiting n k e = some_same e
waits-own Kind.expanded n k e = nothing e
waits-own Kind.covered n k e = nothing e
waits-own Kind.target n k e = nothing e

-- No node below the lowest that waits does.
pub next-right : (M : Model) (B : Building) (n : ℕ) → lowest_waiting M B ≡ Some n → NextRight M B n
unfolding lowest_waiting
next-right M B n e =
    let p = first-least B.nodes (λ i. waits (B.kind i) i) n e in
    let q = waits-own (B.kind p.place) p.place n p.is in
    record { is = λ i l x k. waits-so (B.kind i) i k (p.before i (subst (λ (j : ℕ). i < j) (sym q) x)) }

-- ---- what stands where the graph is the same
module _ {m : List ℕ} {old new : List ℕ} where
  pub held-still : {nodes : ℕ} → held_in m nodes new ≡ held_in m nodes old → length new ≡ length old → Held m nodes old → Held m nodes new
  held-still e l H = record { model = H.model; kept = subst (λ (B : Building). Kept (model_of m) most_nodes B) (sym e) H.kept; long = omega (arith, H.long) }

  pub lent_still : {longest : ℕ} {w : Work} → graph_in m w new ≡ graph_in m w old → length new ≡ length old → Lent m longest w old → Lent m longest w new
  lent_still e l L = record { counted = L.counted ∙ ap (graph_length (model_of m)) (sym e); short = L.short; lent = omega (arith, L.lent); limit = L.limit }

-- ---- the search for a repair
-- What it leaves.
pub record Found (m : List ℕ) (w : Work) (nb new marks : List ℕ) (o : Option Move) : Type 0 where
  pub is : o ≡ first w.nodes (repair (model_of m) (graph_in m w nb))
  pub reread : Reread m w.nodes nb new
  pub marked : MarkRight (model_of m) (graph_in m w new) (row_in marks) (node_of w.high o) w.high

pub found-by : {m nb new marks : List ℕ} (w : Work) {o : Option Move} → o ≡ first w.nodes (repair (model_of m) (graph_in m w nb)) → Reread m w.nodes nb new
    → MarkRight (model_of m) (graph_in m w new) (row_in marks) (node_of w.high o) w.high → Found m w nb new marks o
found-by w a b c = record { is = a; reread = b; marked = c }

-- ---- after it, by what it has changed
module _ {m nb new : List ℕ} {n : ℕ} (valid : Valid m) (R : Reread m n nb new) where
  pub hints-still : {fresh : ℕ} → HintRight (model_of m) (held_in m n nb) (hint_in m nb) fresh → HintRight (model_of m) (held_in m n new) (hint_in m new) fresh
  hints-still {fresh} H =
      let some-variable = variables-some valid in
      subst (λ (h : ℕ → ℕ). HintRight (model_of m) (held_in m n new) h fresh) (λ i x. sym (R.others x (hint_field m) (omega arith) (λ e. omega arith)) i)
      (subst (λ (B : Building). HintRight (model_of m) B (hint_in m nb) fresh) (sym R.held) H)

-- What settling the hints asks.
pub settle-asked : {m nb new : List ℕ} {n fresh : ℕ} → Reread m n nb new → Held m n nb → HintRight (model_of m) (held_in m n nb) (hint_in m nb) fresh → Held m n new × HintRight (model_of m) (held_in m n new) (hint_in m new) fresh
settle-asked R K H = (held-still R.held R.stays.long K, hints-still K.model R H)

module _ {m nb new last : List ℕ} {w : Work} (R : Reread m w.nodes nb new) (S : HintsSettled m w new last) where
  grow-same : graph_in m w last ≡ graph_in m w nb
  grow-same = S.held ∙ R.held

  grow-long : length last ≡ length nb
  grow-long = S.stays.long ∙ R.stays.long

  -- What growing asks then.
  pub grow-asked : {longest : ℕ} → Held m w.nodes nb → Lent m longest w nb → NextRight (model_of m) (graph_in m w nb) w.next → w.next ≤ w.nodes → w.waiting ≡ waiting_count (graph_in m w nb)
      → Held m w.nodes last × (Lent m longest w last × (HintRight (model_of m) (graph_in m w last) (hint_in m last) w.nodes × (NextRight (model_of m) (graph_in m w last) w.next × ((w.next ≤ w.nodes) × (w.waiting ≡ waiting_count (graph_in m w last))))))
  grow-asked H L N l e =
      (held-still grow-same grow-long H, (lent_still grow-same grow-long L, (S.hints, (subst (λ (B : Building). NextRight (model_of m) B w.next) (sym grow-same) N, (l, e ∙ ap waiting_count (sym grow-same))))))

  -- What both leave.
  pub looked-both : Looked m w nb last
  looked-both = record {
    held = grow-same;
    read = subst (λ (h : ℕ → ℕ). ReadRight (model_of m) (graph_in m w last) h) (λ i x. sym (S.others x read_field (omega arith) (λ q. omega arith)) i)
        (subst (λ (B : Building). ReadRight (model_of m) B (read_in m new)) (sym S.held) R.read);
    parents = λ i. S.others i parent_field (omega arith) (λ q. omega arith) ∙ R.others i parent_field (omega arith) (λ q. omega arith);
    stays = stays-both R.stays S.stays;
  }

module _ {m nb new marks : List ℕ} {w : Work} {o : Option Move} (F : Found m w nb new marks o) where
  abbrev M : Model
  M = model_of m

  abbrev R : Reread m w.nodes nb new
  R = F.reread

  -- ---- a repair is found
  module _ {found : Move} (own : o ≡ Some found) (valid : Valid m) (H : HintRight (model_of m) (graph_in m w nb) (hint_in m nb) w.fresh) where
    repair-is : (P : Limit) → o ≡ next_move M P (graph_in m w nb)
    unfolding next_move ◌orelse◌
    repair-is P = own ∙ rw (sym F.is ∙ own) refl

    made : (mv : Move) → first w.nodes (repair M (graph_in m w nb)) ≡ Some mv → MarkRight M (graph_in m w new) (row_in marks) (node_of w.high (Some mv)) w.high → ToMake m w new marks (Some mv)
    made a q =
        let p = first_some w.nodes (repair M (graph_in m w nb)) a q in
        let to : (n : ℕ) → MarkRight M (graph_in m w new) (row_in marks) n w.high → ToRepair m w new marks n = λ n x. record { hints = hints-still valid R H; marked = x } in
        repair-moves (λ (x : Move). MarkRight M (graph_in m w new) (row_in marks) (node_of w.high (Some x)) w.high → ToMake m w new marks (Some x)) p.0
        (λ v. to p.0) (to p.0) (to p.0) M (graph_in m w nb) ((graph_in m w nb).kind p.0) p.2

    pub repaired : (P : Limit) → (o ≡ next_move (model_of m) P (graph_in m w nb)) × (Looked m w nb new × ToMake m w new marks o)
    repaired P = (
      repair-is P,
      (
        record { held = R.held; read = R.read; parents = λ i. R.others i parent_field (omega arith) (λ q. omega arith); stays = R.stays },
        subst (λ (x : Option Move). ToMake m w new marks x) (sym own)
            (made found (sym F.is ∙ own) (subst (λ (x : Option Move). MarkRight M (graph_in m w new) (row_in marks) (node_of w.high x) w.high) own F.marked)),
      ),
    )

  -- ---- none is found, and the hints are settled
  module _ (no-repair : o ≡ None) {last : List ℕ} (S : HintsSettled m w new last) where
    first-no : first w.nodes (repair M (graph_in m w nb)) ≡ None
    first-no = sym F.is ∙ no-repair

    same : graph_in m w last ≡ graph_in m w nb
    same = grow-same R S

    to-grow : (n : ℕ) → NextRight M (graph_in m w nb) n → ToGrow m w last marks n
    to-grow n N = record {
      mended = subst (λ (B : Building). Mended M B) (sym same) (first-none w.nodes (repair M (graph_in m w nb)) first-no);
      hints = S.hints;
      marked = subst (λ (B : Building). MarkRight M B (row_in marks) w.high w.high) (sym S.held)
          (subst (λ (x : Option Move). MarkRight M (graph_in m w new) (row_in marks) (node_of w.high x) w.high) no-repair F.marked);
      next = subst (λ (B : Building). NextRight M B n) (sym same) N;
    }

    module _ (P : Limit) {q : Option Move} (g : q ≡ onward (lowest_waiting (model_of m) (graph_in m w last)) (growth (model_of m) P (graph_in m w last))) where
      grown-is : q ≡ onward (lowest_waiting M (graph_in m w nb)) (growth M P (graph_in m w nb))
      grown-is = g ∙ ap (λ (B : Building). onward (lowest_waiting M B) (growth M P B)) same

      next-is : q ≡ next_move M P (graph_in m w nb)
      unfolding next_move ◌orelse◌
      next-is = rw first-no grown-is

      grown : NextRight M (graph_in m w nb) w.next → (x : Option Move) → q ≡ x → ToMake m w last marks x
      grown N None z = to-grow w.next N
      grown N (Some mv) z =
          let p = onward-some (lowest_waiting M (graph_in m w nb)) (growth M P (graph_in m w nb)) mv (sym grown-is ∙ z) in
          let G = to-grow p.0 (next-right M (graph_in m w nb) p.0 p.1) in
          growth-moves (λ (x : Move). ToMake m w last marks (Some x)) p.0 (λ c. G) G G M P (graph_in m w nb) p.2

      pub grown-next : NextRight (model_of m) (graph_in m w nb) w.next → (q ≡ next_move (model_of m) P (graph_in m w nb)) × (Looked m w nb last × ToMake m w last marks q)
      grown-next N = (next-is, (looked-both R S, grown N q refl))
