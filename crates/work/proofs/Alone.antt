-- The root alone: its record holds the graph that building starts with, and all that the loop keeps holds of it.
-- Assumes nothing.
use Prim.Native.Nat.{ℕ, ◌+◌, ◌-◌, ◌<◌, ◌≤◌}
use mathlib.Core.Path.{◌≡◌, refl, sym, ap, ◌∙◌, subst}
use mathlib.Core.Bool.{Bool, false, false≢true, ◌&&◌}
use mathlib.Core.List.{List, []}
use native.Mathlib.Decide.{dec_lt}
use native.Mathlib.Omega.{arith}
use borrow.Author.Tests.{le-leb, lt-leb, lt-ltb, le-ltb}
use lib.ListN.{length, get_or}
use lib.Dec.{ltb}
use Rattle.mdp.specs.Kinds.{Kind}
use Rattle.folder.specs.Fields.{signed16}
use Rattle.folder.specs.Contents.{body, field}
use Rattle.folder.proofs.TabLaws.{tab-same}
use Rattle.model.specs.Layout.{variable_count}
use Rattle.model.specs.Model.{Model, model_of}
use Rattle.model.specs.Chances.{initial_state}
use Rattle.model.specs.Valid.{Valid}
use Rattle.graph.specs.Limits.{least_bytes, most_bytes, most_nodes}
use Rattle.graph.specs.Simulation.{node_size, kind_of}
use Rattle.building.specs.First.{put}
use Rattle.building.specs.Building.{Building, start_set}
use Rattle.building.specs.Length.{graph_length}
use Rattle.building.specs.Moves.{seed, repair_as}
use Rattle.building.specs.Kept.{Kept}
use Rattle.building.specs.Built.{Reached}
use Rattle.building.specs.Counts.{Counts}
use Rattle.building.proofs.FirstLaws.{put-at, put_other}
use Rattle.building.proofs.Keeping.{is_waiting, kept-seed}
use Rattle.building.proofs.Ending.{reached-start}
use Rattle.building.proofs.Short.{seed-length}
use Rattle.building.proofs.Counting.{seed-counts}
use Rattle.held.specs.Held.{kind_field, cover_field, child_field, parent_field, tracked_field, state_field, hint_field, node_in, state_in, set_in, held_in}
use Rattle.held.proofs.Made.{counted, counted-in, counted-past}
use Rattle.wants.specs.Standing.{parent_in, hint_in, row_in}
use Rattle.work.specs.declared.Work.{Work}
use Rattle.work.specs.Working.{limit_of, graph_in, Working}
use Rattle.work.specs.Root.{Begun}
use Rattle.work.proofs.RootLaws.{root-value, root-blank}

-- A row of zeros.
pub record Blank (row : List ℕ) : Type 0 where
  pub long : most_nodes ≤ length row
  pub zero : (i : ℕ) → get_or row i 0 ≡ 0

-- A row whose first node's edges would begin at the start.
pub record Begins (row : List ℕ) : Type 0 where
  pub long : most_nodes ≤ length row
  pub zero : get_or row 0 0 ≡ 0

module _ (m : List ℕ) (valid : Valid m) (old new : List ℕ) (begun : Begun (variable_count m) (body m 1) (state_field + variable_count m + 1) old new) where
  abbrev M : Model
  M = model_of m

  abbrev vars : ℕ
  vars = variable_count m

  -- A field of the root that is no concrete value is 0.
  low-blank : (f : ℕ) → f < state_field → node_in m new 0 f ≡ 0
  low-blank f l = begun.is f (omega arith) ∙ sym (root-blank vars (body m 1) f (ap (λ (b : Bool). b && ltb f (state_field + vars)) (lt-leb state_field f l)))

  hint-blank : node_in m new 0 (hint_field m) ≡ 0
  hint-blank =
      begun.is (state_field + vars) (omega arith)
      ∙ sym (root-blank vars (body m 1) (state_field + vars) (rw (le-leb state_field (state_field + vars) (omega arith), le-ltb (state_field + vars) (state_field + vars) (omega arith)) refl))

  value-here : (v : ℕ) → v < vars → node_in m new 0 (state_field + v) ≡ field 6 (body m 1) v 2
  value-here v l =
      let e : state_field + v - state_field ≡ v = omega arith in
      begun.is (state_field + v) (omega arith)
      ∙ sym (root-value vars (body m 1) (state_field + v) (rw (le-leb state_field (state_field + v) (omega arith), lt-ltb (state_field + v) (state_field + vars) (omega arith)) refl))
      ∙ ap (λ (k : ℕ). field 6 (body m 1) k 2) e

  state-is : state_in m new 0 ≡ initial_state M
  unfolding state_in
  state-is = tab-same vars _ _ (λ v l. ap signed16 (value-here v l))

  -- What the root has and every other node has.
  one : {A : Type 0} (d : A) (g : ℕ → A) → g 0 ≡ d → (n : ℕ) → counted 1 d n (g n) ≡ d
  one d g e n = go (dec_lt n 1)
    where
      go : Dec (n < 1) → counted 1 d n (g n) ≡ d
      go (yes l) = let z : n ≡ 0 = omega arith in counted-in 1 d n (g n) l ∙ ap g z ∙ e
      go (no h) = counted-past 1 d n (g n) (omega arith)

  kind-is : (n : ℕ) → counted 1 Kind.waiting n (kind_of (node_in m new n kind_field)) ≡ Kind.waiting
  unfolding kind_of
  kind-is = one Kind.waiting (λ n. kind_of (node_in m new n kind_field)) (rw (low-blank kind_field (omega arith)) refl)

  set_is : (n : ℕ) → counted 1 (start_set M) n (set_in m new n) ≡ start_set M
  unfolding start_set
  set_is = one 0 (set_in m new) (low-blank tracked_field (omega arith))

  states-are : (n : ℕ) → counted 1 [] n (state_in m new n) ≡ put 0 (initial_state M) (λ k. []) n
  states-are n = go (dec_lt n 1)
    where
      go : Dec (n < 1) → counted 1 [] n (state_in m new n) ≡ put 0 (initial_state M) (λ k. []) n
      go (yes l) = let z : n ≡ 0 = omega arith in counted-in 1 [] n (state_in m new n) l ∙ ap (state_in m new) z ∙ state-is ∙ sym (put-at 0 (initial_state M) (λ k. []) n z)
      go (no h) = counted-past 1 [] n (state_in m new n) (omega arith) ∙ sym (put_other 0 (initial_state M) (λ k. []) n (λ e. omega arith))

  pub alone : held_in m 1 new ≡ seed M
  alone = λ i. record {
    nodes = 1;
    kind = λ n. kind-is n i;
    cover = λ n. one 0 (λ k. node_in m new k cover_field) (low-blank cover_field (omega arith)) n i;
    tracked = λ n. set_is n i;
    state = λ n. states-are n i;
    child = λ n. one 0 (λ k. node_in m new k child_field) (low-blank child_field (omega arith)) n i;
  }

  -- ---- what the loop keeps
  abbrev B : Building
  B = held_in m 1 new

  waits-not : {κ : Kind} → is_waiting κ ≡ false → (n : ℕ) → B.kind n ≡ κ → ⊥
  waits-not h n k = false≢true (sym h ∙ ap is_waiting (sym k ∙ kind-is n))

  module _ (longest : ℕ) (room : least_bytes + node_size vars ≤ longest) (lent : longest ≤ least_bytes + length old) (limit : longest ≤ most_bytes) {marks reaches begins : List ℕ} (none-marked : Blank marks) (none-reached : Blank reaches) (none-begun : Begins begins) where
    kept : Kept M most_nodes B
    kept = subst (λ (C : Building). Kept M most_nodes C) (sym alone) (kept-seed M (limit_of longest) valid.model (omega arith))

    module _ (w : Work) (one-node : w.nodes ≡ 1) (len : w.len ≡ least_bytes + node_size vars) (fresh : w.fresh ≡ most_nodes) (low : w.low ≡ 0) (high : w.high ≡ 0) (next : w.next ≡ 0) (waiting : w.waiting ≡ 1) where
      abbrev C : Building
      C = graph_in m w new

      same : C ≡ B
      same = ap (λ (n : ℕ). held_in m n new) one-node

      shut : {κ : Kind} → is_waiting κ ≡ false → (n : ℕ) → C.kind n ≡ κ → ⊥
      shut h n k = waits-not h n (ap (λ (G : Building). G.kind n) (sym same) ∙ k)

      pub working : Working m longest w new marks reaches begins
      working = record {
        held = record {
          model = valid;
          kept = subst (λ (G : Building). Kept M most_nodes G) (sym same) kept;
          long = rw one-node (omega (arith, begun.stays.long));
        };
        reached = subst (λ (G : Building). Reached M (limit_of longest) G) (sym (same ∙ alone)) (reached-start M (limit_of longest));
        lent = record {
          counted = len ∙ sym (seed-length M (limit_of longest) valid.model) ∙ ap (graph_length M) (sym (same ∙ alone));
          short = omega arith;
          lent = omega (arith, begun.stays.long);
          limit = limit;
        };
        known = record {
          read = record { is = λ i l k. absurd (shut refl i k) };
          parents = record { is = λ i l k. absurd (shut refl i k) };
          settled = record { is = λ i l d k. absurd (shut refl i k) };
          hints = record {
            within = λ i l. let z : i ≡ 0 = omega arith in omega (arith, ap (λ (n : ℕ). hint_in m new n) z ∙ hint-blank);
            is = λ i l c x. let z : i ≡ 0 = omega arith in absurd (omega (arith, ap (λ (n : ℕ). hint_in m new n) z ∙ hint-blank));
          };
          covering = record { is = λ i l k. absurd (shut refl i k) };
          marked = record {
            is = λ i l z. ap (repair_as M C i) (ap (λ (G : Building). G.kind i) same ∙ kind-is i);
            below = λ i l. none-marked.zero i;
            above = λ i l. none-marked.zero i;
          };
          next = record { is = λ i l x. absurd (omega arith) };
          counts = subst (λ (G : Building). Counts M G w.waiting (row_in begins)) (sym (same ∙ alone)) (rw waiting (seed-counts M {begin = row_in begins} none-begun.zero));
          window = (omega arith, omega arith, omega arith);
          fresh = omega arith;
          bounds = (λ i l. let z : i ≡ 0 = omega arith in omega (arith, ap (λ (n : ℕ). parent_in m new n) z ∙ low-blank parent_field (omega arith)), λ x. omega (arith, none-reached.zero x));
          rows = (none-marked.long, none-reached.long, none-begun.long);
        };
      }
