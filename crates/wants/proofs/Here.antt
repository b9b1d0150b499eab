-- What reading asks of a node's label, whose values are the concrete state's own; and what the rows are then.
-- Assumes nothing.
use Prim.Native.Nat.{ℕ, ◌+◌, ◌-◌, ◌<◌}
use mathlib.Core.Path.{◌≡◌, refl, sym, ap, ◌∙◌}
use mathlib.Core.Bool.{true, false, false≢true}
use mathlib.Core.List.{List, ◌++◌}
use native.Mathlib.Omega.{arith}
use borrow.Author.Tests.{eq-eqb, eqb-true}
use lib.ListN.{length, get_or, take, drop, replicate}
use lib.IntN.{ℤ, pos}
use Rattle.folder.specs.Fields.{signed16}
use Rattle.folder.specs.Contents.{body, field}
use Rattle.folder.specs.Tab.{tab}
use Rattle.folder.proofs.FillLaws.{take-filled, get_or-still}
use Rattle.whole.proofs.Order.{to-⊑, ⊑_trans, within}
use Rattle.expressions.specs.Entries.{Entries, entries_of}
use Rattle.expressions.specs.Meaning.{State, value_of}
use Rattle.expressions.specs.Reading.{look_in}
use Rattle.expressions.specs.Ranges.{bound_in}
use Rattle.expressions.specs.Combinations.{Label, Holds, Proper}
use Rattle.expressions.specs.Limits.{farthest_bound}
use Rattle.expressions.specs.Mentions.{missing}
use Rattle.expressions.specs.States.{lacked_by}
use Rattle.expressions.specs.ThreeWay.{Number}
use Rattle.expressions.proofs.Interval.{In, bound-here}
use Rattle.evaluate.specs.Formed.{Formed, Ready, Grounded}
use Rattle.evaluate.specs.Settled.{flag_of, content_of, entry_reading, Settled}
use Rattle.choices.specs.Ranged.{Ranged, label_in as label_over}
use Rattle.states.specs.Stated.{entry_in, HasFlagged, StateRow}
use Rattle.states.specs.Read.{reads_known, Asked, Widened}
use Rattle.states.specs.Needed.{is_up}
use Rattle.states.proofs.Reading.{stays-known, three-is}
use Rattle.model.specs.Layout.{variable_count}
use Rattle.model.specs.Model.{Model, model_of, bound}
use Rattle.model.specs.Valid.{VariableRight}
use Rattle.model.proofs.Chances.{in_bounds}
use Rattle.model.proofs.Limits.{limits}
use Rattle.graph.specs.Simulation.{node_size}
use Rattle.building.proofs.ReadLaws.{proper-by, holds-own}
use Rattle.held.specs.Held.{state_field, node_in, state_in, set_in, label_in, NodeHere}
use Rattle.wants.specs.Wants.{MasksOf, LabelFlagged, NodeRead}
use Rattle.std.specs.Prelude.{None, Some}

-- Field f of node n, as the code reads it.
pub field-read : (m nb : List ℕ) (n f : ℕ) {vars size x : ℕ} → vars ≡ variable_count m → size ≡ node_size vars → x ≡ field size nb n f → x ≡ node_in m nb n f
field-read m nb n f p q e = e ∙ (λ i. field ((q ∙ ap node_size p) i) nb n f)

-- What `load_row` loads.
pub loaded : (m nb : List ℕ) (n : ℕ) {vars : ℕ} {row : List ℤ} (d : List ℤ) → vars ≡ variable_count m
    → row ≡ tab vars (λ v. signed16 (field (node_size vars) nb n (state_field + v))) ++ drop vars d → take vars row ≡ state_in m nb n
unfolding state_in
loaded m nb n {vars} d p e =
    take-filled vars (λ v. signed16 (field (node_size vars) nb n (state_field + v))) d e ∙ (λ i. tab (p i) (λ v. signed16 (field (node_size (p i)) nb n (state_field + v))))

-- No flag is up in a row of zeros.
pub none-flagged : (x : Entries) (s : State) (row : List ℤ) (size : ℕ) → HasFlagged x s row (replicate size 0)
none-flagged x s row size = record { is = λ e l u. absurd (let z : get_or (replicate {A = ℕ} size 0) e 0 ≡ 0 = get_or-still {A = ℕ} 0 size e in omega arith) }

-- The rows, by other names of the body and the state.
pub flagged-as : {x y known : List ℕ} {v s row : List ℤ} → x ≡ y → v ≡ s → HasFlagged (entries_of y) s row known → HasFlagged (entries_of x) v row known
flagged-as p q h = rw (p, q) h

pub stated-as : {x y : List ℕ} {v s row : List ℤ} → x ≡ y → v ≡ s → StateRow (entries_of x) v row → StateRow (entries_of y) s row
stated-as p q h = rw (p, q) at h

module _ {m nb : List ℕ} {n : ℕ} (here : NodeHere m nb n) where
  abbrev M : Model
  M = model_of m

  abbrev S : State
  S = state_in m nb n

  abbrev T : ℕ
  T = set_in m nb n

  abbrev L : Label
  L = label_in m nb n

  formed : Formed M.entries M.variables (bound M)
  formed = record { right = here.model.model.entries; ranges = here.model.model.ranges }

  inside : (i : ℕ) → In (bound M i) (value_of S i)
  inside = in_bounds M S here.states

  pub state-grounded : Grounded M.entries S
  state-grounded = record {
    variables = M.variables;
    few = (limits here.model.folder).variables;
    bound = bound M;
    formed = formed;
    low = λ i. (inside i).low;
    high = λ i. (inside i).high;
  }

  pub label-ready : Ready M.entries T S
  label-ready = record {
    variables = M.variables;
    bound = bound M;
    formed = formed;
    values = record { low = λ i t. (inside i).low; high = λ i t. (inside i).high };
  }

  pub label-proper : Proper L
  label-proper = proper-by M T S here.small here.states

  own-holds : Holds L S
  own-holds = holds-own M T S here.small here.states

  -- ---- its ranges
  bound-is : bound M ≡ bound_in (body m 1)
  unfolding bound bound_in
  bound-is = refl

  ranged : Ranged (body m 1)
  ranged = record {
    few = (limits here.model.folder).variables;
    ordered = λ v l. rw (← bound-here (body m 1) v refl l) (right v l).ordered;
    low_small = λ v l. rw (← bound-here (body m 1) v refl l) (within (farthest_bound - 1) (M.low v) (to-⊑ (right v l).least) (⊑_trans (to-⊑ (right v l).ordered) (to-⊑ (right v l).most)));
    high_small = λ v l. rw (← bound-here (body m 1) v refl l) (within (farthest_bound - 1) (M.high v) (⊑_trans (to-⊑ (right v l).least) (to-⊑ (right v l).ordered)) (to-⊑ (right v l).most));
  }
    where
      right : (v : ℕ) → v < M.variables → VariableRight M v
      right = here.model.model.variables

  -- The label as those see it who read by all states.
  label_is : L ≡ label_over (body m 1) T S
  label_is i = record { variables = M.variables; bound = bound-is i; tracked = T; values = S }

  -- ---- the rows, from what reads known three ways
  module _ {known : List ℕ} {values : List ℤ} (s : Settled M.entries (look_in T S) M.entries.count known values) where
    abbrev three : ℕ → Number
    three = entry_reading M.entries (look_in T S)

    pub label-flagged : LabelFlagged m nb n known
    label-flagged = record {
      sound = λ e l u. known_so e l (three e) refl (sym (s.flags e l) ∙ u);
      unknown = λ e l d. open-so (three e) (λ u. d (s.flags e l ∙ u));
    }
      where
        open-so : (a : Number) → (flag_of a ≡ 1 → ⊥) → a ≡ None
        open-so (Some z) d = absurd (d refl)
        open-so None d = refl

        known_so : (e : ℕ) → e < M.entries.count → (a : Number) → three e ≡ a → flag_of a ≡ 1 → reads_known M.entries L e ≡ true
        known_so e l (Some z) q k = stays-known M.entries L e M.variables (formed.right e l) label-proper z q
        known_so e l None q k = absurd (omega arith)

    pub label-stated : HasFlagged M.entries S values known
    label-stated = record { is = λ e l u. go e l (three e) refl (sym (s.flags e l) ∙ u) }
      where
        go : (e : ℕ) → e < M.entries.count → (a : Number) → three e ≡ a → flag_of a ≡ 1 → get_or values e (pos 0) ≡ entry_in M.entries S e
        go e l (Some z) q k = s.contents e l ∙ ap content_of q ∙ sym (three-is M.entries L e M.variables (formed.right e l) label-proper S own-holds z q)
        go e l None q k = absurd (omega arith)

-- After entries were asked.
pub read_again : {m nb : List ℕ} {n : ℕ} {masks known₀ known : List ℕ} {state : List ℤ} → NodeRead m nb n masks known₀ state → LabelFlagged m nb n known → length known ≡ length known₀ → NodeRead m nb n masks known state
read_again r f l = record { node = r.node; masked = r.masked; flagged = f; stated = r.stated; known-long = omega (arith, r.known-long); state-long = r.state-long }

-- ---- an entry that is asked
module _ {m nb : List ℕ} {n : ℕ} {masks known : List ℕ} {state : List ℤ} (read : NodeRead m nb n masks known state) {e : ℕ} (l : e < (model_of m).entries.count) where
  abbrev here : NodeHere m nb n
  here = read.node

  module _ (down : is_up known e ≡ false) where
    asked_here : Asked (M here).entries (body m 1) (S here) masks state known e (T here)
    asked_here = record {
      readable = record { formed = rw (← bound-is here) (formed here); ranged = ranged here; proper = rw (← label_is here) (label-proper here) };
      masked = read.masked;
      concrete = record { own = S here; holds = rw (← label_is here) (own-holds here); row = read.stated };
      flagged = rw (← label_is here) read.flagged;
      few = (limits here.model.folder).expressions;
      long = omega (arith, (limits here.model.folder).expressions, read.known-long);
      there = l;
      down = λ u. false≢true (sym down ∙ eq-eqb (get_or known e 0) 1 u);
    }

    module _ {x y : List ℕ} {v : List ℤ} {t : ℕ} (px : x ≡ body m 2) (py : y ≡ body m 1) (pv : v ≡ S here) (pt : t ≡ T here) where
      pub asked-as : Asked (entries_of x) y v masks state known e t
      asked-as = rw (px, py, pv, pt) asked_here

      pub widened-as : {after : List ℕ} → Widened (entries_of x) (label_over y t v) e known after → Widened (model_of m).entries (label_in m nb n) e known after
      widened-as w = rw (label_is here) (rw (px, py, pv, pt) at w)

  pub flagged-up : is_up known e ≡ true → true ≡ reads_known (model_of m).entries (label_in m nb n) e
  flagged-up k = sym (read.flagged.sound e l (eqb-true (get_or known e 0) 1 k))

-- What it lacks.
module _ (m : List ℕ) {masks : List ℕ} (masked : MasksOf m masks) (nb : List ℕ) (n : ℕ) {e : ℕ} (l : e < (model_of m).entries.count) where
  pub lacks-as : {vars mask set r : ℕ} → vars ≡ variable_count m → mask ≡ get_or masks e 0 → set ≡ set_in m nb n → r ≡ missing vars mask set → r ≡ lacked_by (model_of m).entries (label_in m nb n) e
  lacks-as p q s k = k ∙ (λ i. missing (p i) ((q ∙ masked.is e l) i) (s i))
