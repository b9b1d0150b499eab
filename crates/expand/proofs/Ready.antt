-- What reading asks of a node's label, where A1 holds, and of its concrete state; and what the rows are then.
-- Assumes nothing.
use Prim.Native.Nat.{ℕ, ◌+◌, ◌-◌, ◌<◌}
use mathlib.Core.Path.{◌≡◌, refl, sym, ap, ◌∙◌}
use mathlib.Core.Bool.{true, false, false≢true}
use native.Mathlib.Omega.{arith}
use borrow.Author.Tests.{eq-eqb, eqb-true}
use mathlib.Core.List.{List, ◌++◌}
use lib.ListN.{get_or, take, drop}
use lib.IntN.{ℤ, pos}
use Rattle.folder.specs.Contents.{body, count_of, signed_field}
use Rattle.folder.specs.Tab.{tab}
use Rattle.folder.proofs.Decides.{passes, everywhere, whenever}
use Rattle.folder.proofs.TabLaws.{get_or-tab}
use Rattle.folder.proofs.FillLaws.{take-filled}
use Rattle.whole.proofs.Order.{equal-decided, to-⊑, ⊑_trans, within}
use Rattle.expressions.specs.Entries.{entries_of}
use Rattle.expressions.specs.Meaning.{value_of}
use Rattle.expressions.specs.Reading.{look_in}
use Rattle.expressions.specs.Ranges.{bound_in}
use Rattle.expressions.specs.Combinations.{Label, Holds, Proper}
use Rattle.expressions.specs.ThreeWay.{Number}
use Rattle.expressions.proofs.Interval.{In, bound-here}
use Rattle.evaluate.specs.Formed.{Formed, Ready, Grounded}
use Rattle.evaluate.specs.Settled.{flag_of, content_of, entry_reading, Settled}
use Rattle.expressions.specs.Limits.{farthest_bound}
use Rattle.choices.specs.Ranged.{Ranged, label_in}
use Rattle.states.specs.Stated.{entry_in, HasFlagged, StateRow}
use Rattle.states.specs.Read.{reads_known, Asked, Widened}
use Rattle.states.proofs.Reading.{stays-known, three-is}
use Rattle.states.specs.Needed.{is_up}
use Rattle.model.specs.Layout.{variable_count}
use Rattle.model.specs.Model.{Model, model_of, bound}
use Rattle.model.specs.Valid.{VariableRight}
use Rattle.model.proofs.Chances.{in_bounds}
use Rattle.model.proofs.Limits.{limits}
use Rattle.graph.specs.Simulation.{Simulation, node_size, simulation_of}
use Rattle.graph.specs.Labels.{tracks, label_of, concrete_state}
use Rattle.graph.specs.Rules.{A1}
use Rattle.graph.proofs.Decided.{a1-decided}
use Rattle.graph.proofs.Labelled.{tracked-there, concrete-in-range, proper, holds}
use Rattle.expand.specs.Node.{NodeOf, LabelFlagged, LabelWidened, FlaggedSettled, StateSettled, NodeRead, MasksOf}
use Rattle.std.specs.Prelude.{None, Some}

-- The same body, set and values by other names.
pub settled-as : {x y : List ℕ} {t u : ℕ} {v w : List ℤ} {known : List ℕ} {values : List ℤ} → x ≡ y → t ≡ u → v ≡ w
    → Settled (entries_of x) (look_in t v) (count_of 8 x) known values → Settled (entries_of y) (look_in u w) (count_of 8 y) known values
settled-as p q r s = rw (sym p, sym q, sym r) s

pub grounded-as : {x y : List ℕ} {v w : List ℤ} → x ≡ y → v ≡ w → Grounded (entries_of y) w → Grounded (entries_of x) v
grounded-as p q s = rw (p, q) s

pub ready-as : {x y : List ℕ} {t u : ℕ} {v w : List ℤ} → x ≡ y → t ≡ u → v ≡ w → Ready (entries_of y) u w → Ready (entries_of x) t v
ready-as p q r s = rw (p, q, r) s

module _ {m g : List ℕ} {n : ℕ} (node : NodeOf m g n) where
  abbrev M : Model
  M = model_of m

  abbrev G : Simulation
  G = simulation_of M g

  -- What `load_row` loads.
  module _ {vars : ℕ} {nb : List ℕ} {row : List ℤ} (d : List ℤ) (p : vars ≡ variable_count m) (q : nb ≡ body g 0) where
    pub label-loaded : row ≡ tab vars (λ v. signed_field (node_size vars) nb n (6 + vars + v)) ++ drop vars d → take vars row ≡ tab M.variables (G.label n)
    label-loaded e = take-filled vars (λ v. signed_field (node_size vars) nb n (6 + vars + v)) d e ∙ (λ i. tab (p i) (λ v. signed_field (node_size (p i)) (q i) n (6 + p i + v)))

    pub state-loaded : row ≡ tab vars (λ v. signed_field (node_size vars) nb n (6 + v)) ++ drop vars d → take vars row ≡ concrete_state M G n
    state-loaded e = take-filled vars (λ v. signed_field (node_size vars) nb n (6 + v)) d e ∙ (λ i. tab (p i) (λ v. signed_field (node_size (p i)) (q i) n (6 + v)))

  -- ---- the state
  formed : Formed M.entries M.variables (bound M)
  formed = record { right = node.model.model.entries; ranges = node.model.model.ranges }

  inside : (i : ℕ) → In (bound M i) (value_of (concrete_state M G n) i)
  inside = in_bounds M (concrete_state M G n) (concrete-in-range M G n (node.rows.content.nodes n node.there))

  pub state-grounded : Grounded M.entries (concrete_state M G n)
  state-grounded = record {
    variables = M.variables;
    few = (limits node.model.folder).variables;
    bound = bound M;
    formed = formed;
    low = λ i. (inside i).low;
    high = λ i. (inside i).high;
  }

  -- The rows of the state, by other names.
  pub flagged-as : {x known : List ℕ} {v row : List ℤ} → x ≡ body m 2 → v ≡ concrete_state M G n → FlaggedSettled m g n known row → HasFlagged (entries_of x) v row known
  flagged-as p q h = rw (p, q) h

  pub stated-as : {x : List ℕ} {v row : List ℤ} → x ≡ body m 2 → v ≡ concrete_state M G n → StateRow (entries_of x) v row → StateSettled m g n row
  stated-as p q h = rw (p, q) at h

  -- ---- the label: where A1 holds, its tracked values are the state's
  agrees : A1 M G n ≡ true → (i : ℕ) → tracks G n i ≡ true → value_of (tab M.variables (G.label n)) i ≡ value_of (concrete_state M G n) i
  unfolding A1
  agrees h i t =
      let l = tracked-there M G n (node.rows.content.nodes n node.there) i t in
      get_or-tab (pos 0) M.variables (G.label n) i l
      ∙ (everywhere M.variables (λ v k. whenever (passes (tracks G n v)) (equal-decided (G.label n v) (G.concrete n v)))).yes h i l t
      ∙ sym (get_or-tab (pos 0) M.variables (G.concrete n) i l)

  pub label-ready : A1 M G n ≡ true → Ready M.entries (G.tracked n) (tab M.variables (G.label n))
  label-ready h = record {
    variables = M.variables;
    bound = bound M;
    formed = formed;
    values = record { low = λ i t. rw (agrees h i t) (inside i).low; high = λ i t. rw (agrees h i t) (inside i).high };
  }

  -- ---- its ranges
  bound-is : bound M ≡ bound_in (body m 1)
  unfolding bound bound_in
  bound-is = refl

  pub ranged : Ranged (body m 1)
  ranged = record {
    few = (limits node.model.folder).variables;
    ordered = λ v l. rw (← bound-here (body m 1) v refl l) (right v l).ordered;
    low_small = λ v l. rw (← bound-here (body m 1) v refl l) (within (farthest_bound - 1) (M.low v) (to-⊑ (right v l).least) (⊑_trans (to-⊑ (right v l).ordered) (to-⊑ (right v l).most)));
    high_small = λ v l. rw (← bound-here (body m 1) v refl l) (within (farthest_bound - 1) (M.high v) (⊑_trans (to-⊑ (right v l).least) (to-⊑ (right v l).ordered)) (to-⊑ (right v l).most));
  }
    where
      right : (v : ℕ) → v < M.variables → VariableRight M v
      right = node.model.model.variables

  -- ---- the label as those see it who read by all states
  abbrev in_bodies : Label
  in_bodies = label_in (body m 1) (G.tracked n) (tab M.variables (G.label n))

  label_is : label_of M G n ≡ in_bodies
  label_is i = record { variables = M.variables; bound = bound-is i; tracked = G.tracked n; values = tab M.variables (G.label n) }

  module _ (h : A1 M G n ≡ true) where
    pub label-proper : Proper (label_of M G n)
    label-proper = proper M G n (node.rows.content.nodes n node.there) ((a1-decided M G n).yes h)

    pub own-holds : Holds (label_of M G n) (concrete_state M G n)
    own-holds = holds M G n (concrete_state M G n) (record {
      state = concrete-in-range M G n (node.rows.content.nodes n node.there);
      agrees = λ v p t. get_or-tab (pos 0) M.variables (G.concrete n) v p ∙ sym ((a1-decided M G n).yes h v p t);
    })

    -- What reads known three ways is flagged rightly.
    pub label-flagged : {known : List ℕ} {values : List ℤ} → Settled M.entries (look_in (G.tracked n) (tab M.variables (G.label n))) M.entries.count known values → LabelFlagged m g n known
    label-flagged {known} s = record {
      sound = λ e l u. known_so e l (entry_reading M.entries (look_in (G.tracked n) (tab M.variables (G.label n))) e) refl (sym (s.flags e l) ∙ u);
      unknown = λ e l d. open-so (entry_reading M.entries (look_in (G.tracked n) (tab M.variables (G.label n))) e) (λ u. d (s.flags e l ∙ u));
    }
      where
        open-so : (a : Number) → (flag_of a ≡ 1 → ⊥) → a ≡ None
        open-so (Some z) d = absurd (d refl)
        open-so None d = refl

        known_so : (e : ℕ) → e < M.entries.count → (a : Number) → entry_reading M.entries (look_in (G.tracked n) (tab M.variables (G.label n))) e ≡ a → flag_of a ≡ 1 → reads_known M.entries (label_of M G n) e ≡ true
        known_so e l (Some z) q k = stays-known M.entries (label_of M G n) e M.variables (formed.right e l) label-proper z q
        known_so e l None q k = absurd (omega arith)

    -- And is in the state what it reads.
    pub label-stated : {known : List ℕ} {values : List ℤ} → Settled M.entries (look_in (G.tracked n) (tab M.variables (G.label n))) M.entries.count known values → FlaggedSettled m g n known values
    label-stated {known} {values} s = record {
      is = λ e l u. go e l (entry_reading M.entries (look_in (G.tracked n) (tab M.variables (G.label n))) e) refl (sym (s.flags e l) ∙ u);
    }
      where
        go : (e : ℕ) → e < M.entries.count → (a : Number) → entry_reading M.entries (look_in (G.tracked n) (tab M.variables (G.label n))) e ≡ a → flag_of a ≡ 1 → get_or values e (pos 0) ≡ entry_in M.entries (concrete_state M G n) e
        go e l (Some z) q k = s.contents e l ∙ ap content_of q ∙ sym (three-is M.entries (label_of M G n) e M.variables (formed.right e l) label-proper (concrete_state M G n) own-holds z q)
        go e l None q k = absurd (omega arith)

    module _ {known : List ℕ} {state : List ℤ} (read : NodeRead m g n known state) {masks : List ℕ} (masked : MasksOf m masks) {e : ℕ} (l : e < M.entries.count) (down : is_up known e ≡ false) where
      asked_here : Asked M.entries (body m 1) (tab M.variables (G.label n)) masks state known e (G.tracked n)
      asked_here = record {
        readable = record { formed = rw (← bound-is) formed; ranged = ranged; proper = rw (← label_is) label-proper };
        masked = masked;
        concrete = record { own = concrete_state M G n; holds = rw (← label_is) own-holds; row = read.stated };
        flagged = rw (← label_is) read.flagged;
        few = (limits node.model.folder).expressions;
        long = omega (arith, (limits node.model.folder).expressions, read.known-long);
        there = l;
        down = λ u. false≢true (sym down ∙ eq-eqb (get_or known e 0) 1 u);
      }

      module _ {x y : List ℕ} {v : List ℤ} {t : ℕ} (px : x ≡ body m 2) (py : y ≡ body m 1) (pv : v ≡ tab M.variables (G.label n)) (pt : t ≡ G.tracked n) where
        pub asked-as : Asked (entries_of x) y v masks state known e t
        asked-as = rw (px, py, pv, pt) asked_here

        pub widened-as : {after : List ℕ} → Widened (entries_of x) (label_in y t v) e known after → LabelWidened m g n e known after
        widened-as w = rw label_is (rw (px, py, pv, pt) at w)

-- An entry that is flagged already.
module _ {m g : List ℕ} {n : ℕ} {known : List ℕ} {state : List ℤ} (read : NodeRead m g n known state) {e : ℕ} (l : e < (model_of m).entries.count) where
  pub widened-up : is_up known e ≡ true → LabelWidened m g n e known known
  widened-up k = record { flagged = read.flagged; more = λ i u. u; decided = k ∙ sym (read.flagged.sound e l (eqb-true (get_or known e 0) 1 k)) }
