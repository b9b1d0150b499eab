-- A graph that wants no repair keeps document 01's rules on labels: A1, A2, B1, B2, C3, C1, C2; and the rows before them.
-- Assumes nothing.
use Prim.Native.Nat.{ℕ, ◌+◌, ◌<◌, ◌≤◌}
use mathlib.Core.Path.{◌≡◌, refl, sym, ap, ◌∙◌}
use mathlib.Core.Logic.{◌≢◌}
use mathlib.Core.Bool.{Bool, true, false, false≢true}
use native.Mathlib.Nat.{div-eq_of_lt}
use native.Mathlib.Omega.{arith}
use lib.ListN.{length}
use lib.Seq.{ext_get_or}
use lib.IntN.{pos}
use Rattle.mdp.specs.Kinds.{Kind}
use Rattle.folder.specs.Pick.{pick, implies}
use Rattle.folder.specs.Tab.{tab}
use Rattle.folder.proofs.ScanLaws.{all_true}
use Rattle.folder.proofs.TabLaws.{length-tab, get_or-tab, tab-own, PassAt, passing-at, passing-same}
use Rattle.whole.proofs.Order.{eq_z-is}
use Rattle.whole.specs.Order.{eq_z}
use Rattle.expressions.specs.Meaning.{State, value_of, number_in, truth_in}
use Rattle.expressions.specs.Reading.{has_bit, is_true, known_truth}
use Rattle.expressions.proofs.Missing.{never-known}
use Rattle.model.specs.Model.{Model, first_record}
use Rattle.model.specs.Chances.{next}
use Rattle.graph.specs.Limits.{units}
use Rattle.graph.specs.Simulation.{Simulation}
use Rattle.graph.specs.Labels.{tracks, concrete_state, number_of, truth_of, by_states}
use Rattle.graph.specs.Rules.{enabled_in}
use Rattle.graph.specs.Valid.{NodeRight, EdgeRight, ContentRight, RightA1, RightA2, RightB1, RightB2, RightC3, RightC1, RightC2, RightValue, RulesRight}
use Rattle.building.specs.First.{◌orelse◌, given, first}
use Rattle.building.specs.Building.{Building, enabled, edge_commands, agrees, is_open, child_by, kind_number, if_covered, if_expanded, as_simulation}
use Rattle.building.specs.Moves.{Limit, track, adopt, drop, truth_wants, number_wants, guards_want, result_wants, results_want, expanded_wants, covered, adopted, repair_as}
use Rattle.building.specs.Kept.{Kept, Mended}
use Rattle.building.proofs.FirstLaws.{orelse-none, given-none, pick-none, first-none, onward-none}
use Rattle.building.proofs.OffspringLaws.{before-within}
use Rattle.building.proofs.ReadLaws.{truth-none, number-none, reads-truth, reads-number}
use Rattle.std.specs.Prelude.{None, Some}

-- ---- kinds by their numbers
number-expanded : (κ : Kind) → kind_number κ ≡ 1 → κ ≡ Kind.expanded
number-expanded Kind.waiting e = absurd (omega arith)
number-expanded Kind.expanded e = refl
number-expanded Kind.covered e = absurd (omega arith)
number-expanded Kind.target e = absurd (omega arith)

number-covered : (κ : Kind) → kind_number κ ≡ 2 → κ ≡ Kind.covered
number-covered Kind.waiting e = absurd (omega arith)
number-covered Kind.expanded e = absurd (omega arith)
number-covered Kind.covered e = refl
number-covered Kind.target e = absurd (omega arith)

number-target : (κ : Kind) → kind_number κ ≡ 3 → κ ≡ Kind.target
number-target Kind.waiting e = absurd (omega arith)
number-target Kind.expanded e = absurd (omega arith)
number-target Kind.covered e = absurd (omega arith)
number-target Kind.target e = refl

number_small : (κ : Kind) → kind_number κ ≤ 3
number_small Kind.waiting = omega arith
number_small Kind.expanded = omega arith
number_small Kind.covered = omega arith
number_small Kind.target = omega arith

open-not-covered : (κ : Kind) → is_open κ ≡ true → kind_number κ ≢ 2
open-not-covered Kind.waiting o e = absurd (false≢true o)
open-not-covered Kind.expanded o e = omega arith
open-not-covered Kind.covered o e = absurd (false≢true o)
open-not-covered Kind.target o e = omega arith

only-covered : (κ : Kind) (x : ℕ) → kind_number κ ≢ 2 → if_covered κ x ≡ 0
only-covered Kind.waiting x h = refl
only-covered Kind.expanded x h = refl
only-covered Kind.covered x h = absurd (h refl)
only-covered Kind.target x h = refl

only-expanded : (κ : Kind) (x : ℕ) → kind_number κ ≢ 1 → if_expanded κ x ≡ 0
only-expanded Kind.waiting x h = refl
only-expanded Kind.expanded x h = absurd (h refl)
only-expanded Kind.covered x h = refl
only-expanded Kind.target x h = refl

has-edges : (κ : Kind) (x e : ℕ) → e < if_expanded κ x → κ ≡ Kind.expanded
has-edges Kind.waiting x e l = absurd (omega arith)
has-edges Kind.expanded x e l = refl
has-edges Kind.covered x e l = absurd (omega arith)
has-edges Kind.target x e l = absurd (omega arith)

true-known : (b : Bool) → is_true (known_truth b) ≡ b
true-known true = refl
true-known false = refl

implied : (a b : Bool) → implies a b ≡ true → a ≡ true → b ≡ true
implied true b e h = e
implied false b e h = absurd (false≢true h)

-- ---- what every move keeps is enough for
module _ (M : Model) (P : Limit) (B : Building) (K : Kept M P.most B) (value : ℕ → ℕ) where
  abbrev G : Simulation
  G = as_simulation M B value

  -- A label value that is tracked is the concrete one.
  label_is : (n v : ℕ) → v < M.variables → tracks G n v ≡ true → G.label n v ≡ value_of (B.state n) v
  label_is n v l t = rw t refl

  state-is : (n : ℕ) → n < B.nodes → concrete_state M G n ≡ B.state n
  state-is n l =
      let h : length (concrete_state M G n) ≡ M.variables = length-tab M.variables (λ v. value_of (B.state n) v) in
      ext_get_or (pos 0) (concrete_state M G n) (B.state n) (h ∙ sym (K.states n l).long) (λ i k. get_or-tab (pos 0) M.variables (λ v. value_of (B.state n) v) i (omega arith))

  -- ---- A1
  pub a1 : (n : ℕ) → RightA1 M G n
  a1 n v l t = label_is n v l t

  -- ---- C3
  module _ (n : ℕ) (l : n < B.nodes) (k : B.kind n ≡ Kind.covered) where
    cover-is : G.cover n ≡ B.cover n
    cover-is = rw k refl

    cover-there : (G.cover n < G.nodes) × (G.kind (G.cover n) ≢ 2)
    cover-there = rw cover-is ((K.covers n l k).there, open-not-covered (B.kind (B.cover n)) (K.covers n l k).opened)

  pub c3 : (n : ℕ) → n < G.nodes → RightC3 M G n
  c3 n l e = cover-there n l (number-covered (B.kind n) e)

  -- ---- an expanded node's edges
  module _ (n : ℕ) (l : n < B.nodes) (k : B.kind n ≡ Kind.expanded) where
    edges_are : G.edges n ≡ length (edge_commands M (B.state n))
    edges_are = rw k refl

    edge-at : (e : ℕ) → e < G.edges n → PassAt M.commands (enabled M (B.state n)) (edge_commands M (B.state n)) e
    edge-at e h = passing-at M.commands (enabled M (B.state n)) e (omega (arith, edges_are))

    edge-right : (e : ℕ) → e < G.edges n → EdgeRight M G n e
    edge-right e h =
        let a = edge-at e h in
        let p = K.parents n l k in
        record {
          command = a.small;
          whole = refl;
          successors = λ b q. omega (arith, p.there, before-within M (B.state n) M.commands (G.command n e) a.small a.passes);
        }

    -- The child by edge e and branch b has the branch's result.
    child-value : (e : ℕ) → e < G.edges n → (b : ℕ) → b < M.branches (G.command n e) → (v : ℕ) → v < M.variables
        → value_of (B.state (G.successor n e b)) v ≡ number_in M.entries (B.state n) (M.assigned (first_record M (G.command n e) + b) v)
    unfolding next
    child-value e h b q v p =
        let a = edge-at e h in
        ap (λ (s : State). value_of s v) ((K.parents n l k).results (G.command n e) a.small a.passes b q)
        ∙ get_or-tab (pos 0) M.variables (λ w. number_in M.entries (B.state n) (M.assigned (first_record M (G.command n e) + b) w)) v p

  -- ---- the rows before the rules
  pub node-right : ((n : ℕ) → value n ≤ units) → (n : ℕ) → n < G.nodes → NodeRight M G n
  node-right small n l = record {
    kind = number_small (B.kind n);
    value = small n;
    cover = only-covered (B.kind n) (B.cover n);
    edges = only-expanded (B.kind n) (length (edge_commands M (B.state n)));
    bits = div-eq_of_lt (K.small n l);
    low = (K.states n l).low;
    high = (K.states n l).high;
    untracked = λ v h t. rw t refl;
  }

  pub content-right : ((n : ℕ) → value n ≤ units) → ContentRight M G
  content-right small = record {
    nodes = node-right small;
    edges = λ n l e h. edge-right n l (has-edges (B.kind n) (length (edge_commands M (B.state n))) e h) e h;
    spent = refl;
    initial = state-is 0 K.some ∙ K.root;
  }

-- ---- where no rule is broken
module _ (M : Model) (P : Limit) (B : Building) (K : Kept M P.most B) (F : Mended M B) (value : ℕ → ℕ) where
  abbrev H : Simulation
  H = as_simulation M B value

  -- ---- what wants nothing reads known
  read-truth : (n : ℕ) → n < B.nodes → (e : ℕ) → truth_wants M B n e ≡ None → truth_of M H n e ≡ known_truth (truth_in M.entries (B.state n) e)
  read-truth n l e h = reads-truth M B n (K.small n l) (K.states n l) value e ∙ truth-none M B n (K.small n l) (K.states n l) e h

  read_number : (n : ℕ) → n < B.nodes → (e : ℕ) → number_wants M B n e ≡ None → number_of M H n e ≡ Some (number_in M.entries (B.state n) e)
  read_number n l e h = reads-number M B n (K.small n l) (K.states n l) value e ∙ number-none M B n (K.small n l) (K.states n l) e h

  -- ---- what an expanded node, a target and a covered node want
  module _ (n : ℕ) (l : n < B.nodes) (k : B.kind n ≡ Kind.expanded) where
    wants-none : expanded_wants M B n ≡ None
    wants-none = onward-none (expanded_wants M B n) (λ v. track n v) (ap (repair_as M B n) (sym k) ∙ F n l)

    guards_none : guards_want M B n ≡ None
    guards_none = (orelse-none (guards_want M B n) (truth_wants M B n M.target orelse results_want M B n) wants-none).0

    later-none : (truth_wants M B n M.target ≡ None) × (results_want M B n ≡ None)
    later-none = orelse-none (truth_wants M B n M.target) (results_want M B n) (orelse-none (guards_want M B n) (truth_wants M B n M.target orelse results_want M B n) wants-none).1

    guard-read : (c : ℕ) → c < M.commands → truth_of M H n (M.guard c) ≡ known_truth (enabled M (B.state n) c)
    unfolding guards_want
    guard-read c h = read-truth n l (M.guard c) (first-none M.commands (λ c. truth_wants M B n (M.guard c)) guards_none c h)

    target-read : truth_of M H n M.target ≡ (Some false)
    target-read = read-truth n l M.target later-none.0 ∙ ap known_truth (K.parents n l k).no_target

    result-read : (c : ℕ) → c < M.commands → enabled M (B.state n) c ≡ true → (b : ℕ) → b < M.branches c → (v : ℕ) → v < M.variables → has_bit (B.tracked (child_by M B n c b)) v ≡ true
        → number_of M H n (M.assigned (first_record M c + b) v) ≡ Some (number_in M.entries (B.state n) (M.assigned (first_record M c + b) v))
    unfolding results_want result_wants
    result-read c h e b q v p t =
        let x = given-none (enabled M (B.state n) c) (first (M.branches c) (result_wants M B n c)) (first-none M.commands (λ c. given (enabled M (B.state n) c) (first (M.branches c) (result_wants M B n c))) later-none.1 c h) e in
        let y = first-none (M.branches c) (result_wants M B n c) x b q in
        let z = first-none M.variables (λ v. given (has_bit (B.tracked (child_by M B n c b)) v) (number_wants M B n (M.assigned (first_record M c + b) v))) y v p in
        read_number n l (M.assigned (first_record M c + b) v) (given-none (has_bit (B.tracked (child_by M B n c b)) v) (number_wants M B n (M.assigned (first_record M c + b) v)) z t)

  reached-read : (n : ℕ) → n < B.nodes → B.kind n ≡ Kind.target → truth_of M H n M.target ≡ (Some true)
  reached-read n l k =
      read-truth n l M.target (onward-none (truth_wants M B n M.target) (λ v. track n v) (ap (repair_as M B n) (sym k) ∙ F n l))
      ∙ ap known_truth (K.targets n l k)

  module _ (n : ℕ) (l : n < B.nodes) (k : B.kind n ≡ Kind.covered) where
    cover-none : (covered M B n ≡ true) × (pick (adopted M B n) None (Some (adopt n)) ≡ None)
    cover-none = pick-none (covered M B n) (pick (adopted M B n) None (Some (adopt n))) (drop n) (ap (repair_as M B n) (sym k) ∙ F n l)

    cover-agrees : (v : ℕ) → v < M.variables → has_bit (B.tracked (B.cover n)) v ≡ true → value_of (B.state (B.cover n)) v ≡ value_of (B.state n) v
    unfolding agrees
    cover-agrees v h t = eq_z-is _ _ (implied (has_bit (B.tracked (B.cover n)) v) (eq_z (value_of (B.state (B.cover n)) v) (value_of (B.state n) v)) (all_true (λ v. implies (has_bit (B.tracked (B.cover n)) v) (eq_z (value_of (B.state (B.cover n)) v) (value_of (B.state n) v))) M.variables cover-none.0 v h) t)

    cover-tracked : (v : ℕ) → v < M.variables → has_bit (B.tracked (B.cover n)) v ≡ true → has_bit (B.tracked n) v ≡ true
    unfolding adopted
    cover-tracked v h t = implied (has_bit (B.tracked (B.cover n)) v) (has_bit (B.tracked n) v) (all_true (λ v. implies (has_bit (B.tracked (B.cover n)) v) (has_bit (B.tracked n) v)) M.variables (pick-none (adopted M B n) None (adopt n) cover-none.1).0 v h) t

    -- ---- C1, C2
    cover-same : (v : ℕ) → v < M.variables → tracks H (B.cover n) v ≡ true → value_of (B.state n) v ≡ H.label (B.cover n) v
    cover-same v h t = sym (cover-agrees v h t) ∙ sym (label_is M P B K value (B.cover n) v h t)

    cover-adopted : (v : ℕ) → v < M.variables → tracks H (B.cover n) v ≡ true → (tracks H n v ≡ true) × (H.label n v ≡ H.label (B.cover n) v)
    cover-adopted v h t =
        let u : tracks H n v ≡ true = cover-tracked v h t in
        (u, label_is M P B K value n v h u ∙ cover-same v h t)

  pub c1 : (n : ℕ) → n < H.nodes → RightC1 M H n
  c1 n l e = let k = number-covered (B.kind n) e in rw (cover-is M P B K value n l k) (cover-same n l k)

  pub c2 : (n : ℕ) → n < H.nodes → RightC2 M H n
  c2 n l e = let k = number-covered (B.kind n) e in rw (cover-is M P B K value n l k) (cover-adopted n l k)

  -- ---- the rules that read
  known-not-unknown : (b : Bool) → known_truth b ≢ None
  known-not-unknown b e = never-known b (sym e)

  pub a2 : (n : ℕ) → n < H.nodes → RightA2 M H (by_states M H) n
  a2 n l = record {
    guards = λ e c h u. known-not-unknown (enabled M (B.state n) c) (sym (guard-read n l (number-expanded (B.kind n) e) c h) ∙ u);
    no_target = λ e. target-read n l (number-expanded (B.kind n) e);
    target = λ e. reached-read n l (number-target (B.kind n) e);
  }

  pub b1 : (n : ℕ) → n < H.nodes → RightB1 M H (by_states M H) n
  b1 n l e =
      let k = number-expanded (B.kind n) e in
      ap (λ (i : ℕ). tab i (H.command n)) (edges_are M P B K value n l k)
      ∙ tab-own 0 (edge_commands M (B.state n))
      ∙ passing-same M.commands (enabled M (B.state n)) (enabled_in M H n) (λ c h. sym (ap is_true (guard-read n l k c h) ∙ true-known (enabled M (B.state n) c)))

  pub b2 : (n : ℕ) → n < H.nodes → RightB2 M H (by_states M H) n
  b2 n l x e h b q =
      let k = number-expanded (B.kind n) x in
      let a = edge-at M P B K value n l k e h in
      record {
        concrete = λ v p. rw (state-is M P B K value n l) (child-value M P B K value n l k e h b q v p);
        label = λ v p t. result-read n l k (H.command n e) a.small a.passes b q v p t ∙ ap Some (sym (label_is M P B K value (H.successor n e b) v p t ∙ child-value M P B K value n l k e h b q v p));
      }

  pub rules-right : ((n : ℕ) → n < H.nodes → RightValue M H value n) → RulesRight M H (by_states M H)
  rules-right valued = record { a1 = λ n l. a1 M P B K value n; a2 = a2; b1 = b1; b2 = b2; c3 = c3 M P B K value; c1 = c1; c2 = c2; values = valued }
