-- What an expansion makes, by the row of what the entries are in the state of the node that is expanded; and that the records
-- then hold what the move makes of the building that they held.
-- Assumes nothing.
use Prim.Native.Nat.{ℕ, zero, suc, ◌+◌, ◌-◌, ◌*◌, ◌<◌, ◌≤◌}
use mathlib.Core.Path.{◌≡◌, refl, sym, ap, ◌∙◌, subst}
use mathlib.Core.Bool.{Bool, true, false}
use mathlib.Core.List.{List, []}
use native.Mathlib.Nat.{not-suc-le-zero}
use native.Mathlib.Decide.{dec_lt, ℕ_discrete}
use native.Mathlib.Omega.{arith}
use lib.ListN.{length, get_or, get_or-eq_default}
use lib.IntN.{ℤ, pos}
use Rattle.mdp.specs.Kinds.{Kind}
use Rattle.mdp.proofs.SumLaws.{sum-eq}
use Rattle.folder.specs.Pick.{pick}
use Rattle.folder.specs.Fields.{field_limit, signed16}
use Rattle.folder.specs.Contents.{body, field}
use Rattle.folder.proofs.TabLaws.{tab-same, get_or-tab}
use Rattle.whole.specs.Order.{eq_z}
use Rattle.whole.proofs.Order.{to-⊑, from-⊑, ⊑_trans}
use Rattle.expressions.specs.Meaning.{State, value_of, number_in, truth_in}
use Rattle.states.specs.Stated.{StateRow}
use Rattle.states.proofs.Entries.{truth-back, entry-number, entry-truth}
use Rattle.model.specs.Layout.{variable_count, record_size, record_count}
use Rattle.model.specs.Model.{Model, model_of, first_record}
use Rattle.model.specs.Chances.{InRange, next}
use Rattle.model.specs.Valid.{Valid}
use Rattle.model.proofs.Chances.{next-in-range, record-there}
use Rattle.model.proofs.Limits.{limits}
use Rattle.graph.specs.Simulation.{node_size, edge_bytes, kind_of}
use Rattle.building.specs.First.{put}
use Rattle.building.specs.Building.{Building, start_set, enabled, before, births, offspring}
use Rattle.building.specs.Length.{edges_length}
use Rattle.building.specs.Moves.{apply, expand, expanding}
use Rattle.building.proofs.FirstLaws.{put-at, put_other, grown-old, grown-new}
use Rattle.building.proofs.OffspringLaws.{length-offspring, offspring-at}
use Rattle.put.specs.Put.{FitsField}
use Rattle.put.proofs.PutLaws.{signed_back}
use Rattle.held.specs.Held.{kind_field, cover_field, child_field, parent_field, read_field, tracked_field, state_field, hint_field, field_count, node_in, state_in, set_in, held_in, put_in, Whole}
use Rattle.held.proofs.FieldLaws.{record-at, whole-at, put-long, put-here, put-there, field_below, state-same}
use Rattle.held.proofs.Made.{counted, counted-in, counted-past}
use Rattle.nodes.specs.Born.{on_in, records_in, children_in, edges_in, result_of, new_field, Brood, BroodFits}
use Rattle.nodes.proofs.NodeLaws.{new-parent, new-state, new-low, new-hint}

-- ---- the row, and the model's words
pub records-few : {m : List ℕ} → Valid m → records_in (body m 3) (model_of m).commands ≤ field_limit
records-few {m} valid = omega (arith, valid.model.records, (limits valid.folder).records)

module _ {m : List ℕ} {s : State} {row : List ℤ} (valid : Valid m) (stated : StateRow (model_of m).entries s row) where
  abbrev M : Model
  M = model_of m

  pub on-is : (c : ℕ) → c < M.commands → on_in (body m 3) row c ≡ enabled M s c
  unfolding on_in
  on-is c l =
      let g = (valid.model.commands c l).guard in
      ap (λ (z : ℤ). eq_z z (pos 1)) (stated.is (M.guard c) g.there ∙ entry-truth M.entries s (M.guard c) g) ∙ truth-back (truth_in M.entries s (M.guard c))

  pub children-is : (c : ℕ) → c ≤ M.commands → children_in (body m 3) row c ≡ before M s c
  children-is c l = sum-eq c _ _ (λ i h. ap (λ (t : Bool). pick t (M.branches i) 0) (on-is i (omega arith)))

  pub edges-is : edges_in (body m 3) row M.commands ≡ edges_length M s
  unfolding edges_length
  edges-is = sum-eq M.commands _ _ (λ i h. ap (λ (t : Bool). pick t (edge_bytes (M.branches i)) 0) (on-is i h))

  -- What a branch gives.
  module _ (c b : ℕ) (l : c < M.commands) (k : b < M.branches c) where
    result-is : (v : ℕ) → v < variable_count m → result_of (variable_count m) (body m 4) row (records_in (body m 3) c + b) v ≡ number_in M.entries s (M.assigned (first_record M c + b) v)
    result-is v p =
        let n = (valid.model.branches (first_record M c + b) (record-there M valid.model c b l k)).number v p in
        stated.is (M.assigned (first_record M c + b) v) n.there ∙ entry-number M.entries s (M.assigned (first_record M c + b) v) n

    module _ (range : InRange M s) where
      result_value : (v : ℕ) → v < variable_count m → value_of (next M c b s) v ≡ result_of (variable_count m) (body m 4) row (records_in (body m 3) c + b) v
      unfolding next
      result_value v p = get_or-tab (pos 0) (variable_count m) (λ w. number_in M.entries s (M.assigned (first_record M c + b) w)) v p ∙ sym (result-is v p)

      pub result_fits : (v : ℕ) → v < variable_count m → FitsField (result_of (variable_count m) (body m 4) row (records_in (body m 3) c + b) v)
      result_fits v p =
          let r = next-in-range M valid.model c b l k s range in
          let w = valid.model.variables v p in
          subst (λ (z : ℤ). FitsField z) (result_value v p) (record {
            low = from-⊑ (⊑_trans (to-⊑ w.least) (to-⊑ (r.low v p)));
            high = from-⊑ (⊑_trans (to-⊑ (r.high v p)) (to-⊑ w.most));
          })

  pub brood-fits : InRange M s → BroodFits (variable_count m) (body m 3) (body m 4) row M.commands
  brood-fits range = record { all = λ c l. record { each = λ b k. record { fits = λ v p. result_fits c b l k range v p } } }

-- ---- a child, by command and branch
pub record Bred (cs : List ℕ) (row : List ℤ) (c j : ℕ) : Type 0 where
  pub command : ℕ
  pub branch : ℕ
  pub there : command < c
  pub on : on_in cs row command ≡ true
  pub within : branch < field 4 cs command 1
  pub is : j ≡ children_in cs row command + branch

pub bred : (cs : List ℕ) (row : List ℤ) (c j : ℕ) → j < children_in cs row c → Bred cs row c j
bred cs row zero j h = absurd (not-suc-le-zero h)
bred cs row (suc c) j h = go (λ l. bred cs row c j l) (dec_lt j (children_in cs row c)) (on_in cs row c) refl
  where
    go : (j < children_in cs row c → Bred cs row c j) → Dec (j < children_in cs row c) → (t : Bool) → on_in cs row c ≡ t → Bred cs row (suc c) j
    go below (yes l) t e =
        let p = below l in
        record { command = p.command; branch = p.branch; there = omega (arith, p.there); on = p.on; within = p.within; is = p.is }
    go below (no d) true e =
        let q : pick (on_in cs row c) (field 4 cs c 1) 0 ≡ field 4 cs c 1 = rw e refl in
        record { command = c; branch = j - children_in cs row c; there = omega arith; on = e; within = omega (arith, h); is = omega arith }
    go below (no d) false e =
        let q : pick (on_in cs row c) (field 4 cs c 1) 0 ≡ 0 = rw e refl in
        absurd (omega (arith, h))

pub variables-some : {m : List ℕ} → Valid m → 0 < variable_count m
unfolding record_count record_size
variables-some valid = (valid.folder.records 1 (omega arith)).some

-- Node n is expanded, and its children start at k.
abbrev pub expanded_in : ℕ → List ℕ → ℕ → ℕ → List ℕ
expanded_in vars nb n k = put_in vars (put_in vars nb n kind_field 1) n child_field k

module _ {m : List ℕ} {row : List ℤ} {nb new : List ℕ} {n nodes : ℕ} (valid : Valid m) (there : n < nodes)
    (brood : Brood (variable_count m) (body m 3) (body m 4) row n nodes (model_of m).commands nb new) where
  abbrev vars : ℕ
  vars = variable_count m

  abbrev final : List ℕ
  final = expanded_in (variable_count m) new n nodes

  abbrev born : ℕ
  born = children_in (body m 3) row (model_of m).commands

  -- The bytes stay as many; and so do the other fields of the nodes before.
  pub expand-long : length (expanded_in (variable_count m) new n nodes) ≡ length nb
  expand-long = put-long vars (put_in vars new n kind_field 1) n child_field nodes ∙ put-long vars new n kind_field 1 ∙ brood.stays.long

  written : (i f : ℕ) → f < field_count vars → (i ≡ n → f ≡ kind_field → ⊥) → (i ≡ n → f ≡ child_field → ⊥) → node_in m final i f ≡ node_in m new i f
  written i f l p q = put-there vars (put_in vars new n kind_field 1) n child_field nodes (omega arith) i f l q ∙ put-there vars new n kind_field 1 (omega arith) i f l p

  pub expand-other : (i f : ℕ) → i < nodes → f < field_count (variable_count m) → (i ≡ n → f ≡ kind_field → ⊥) → (i ≡ n → f ≡ child_field → ⊥)
      → node_in m (expanded_in (variable_count m) new n nodes) i f ≡ node_in m nb i f
  expand-other i f h l p q = written i f l p q ∙ field_below vars brood.stays i f l (record-at (node_size vars) i nodes h)

  -- The fields of a child.
  module _ (j : ℕ) (h : j < children_in (body m 3) row (model_of m).commands) where
    abbrev own : Bred (body m 3) row (model_of m).commands j
    own = bred (body m 3) row (model_of m).commands j h

    child-field : (f : ℕ) → f < state_field + variable_count m + 1
        → node_in m final (nodes + j) f ≡ new_field vars (body m 4) row (records_in (body m 3) own.command + own.branch) n f
    child-field f l =
        let k : nodes + j ≡ nodes + children_in (body m 3) row own.command + own.branch = omega (arith, own.is) in
        written (nodes + j) f (omega (arith, variables-some valid)) (λ e. absurd (omega arith)) (λ e. absurd (omega arith))
        ∙ ap (λ (i : ℕ). node_in m new i f) k
        ∙ brood.is own.command own.there own.on own.branch own.within f l

    child-low : (f : ℕ) → f < state_field → (f ≡ parent_field → ⊥) → node_in m final (nodes + j) f ≡ 0
    child-low f l d = child-field f (omega arith) ∙ new-low vars (body m 4) row (records_in (body m 3) own.command + own.branch) n f l d

    pub parent_is : node_in m (expanded_in (variable_count m) new n nodes) (nodes + j) parent_field ≡ n
    parent_is = child-field parent_field (omega arith) ∙ sym (new-parent vars (body m 4) row (records_in (body m 3) own.command + own.branch) n parent_field refl)

    pub read_none : node_in m (expanded_in (variable_count m) new n nodes) (nodes + j) read_field ≡ 0
    read_none = child-low read_field (omega arith) (λ e. omega arith)

    pub hint-none : node_in m (expanded_in (variable_count m) new n nodes) (nodes + j) (hint_field m) ≡ 0
    hint-none = child-field (hint_field m) (omega arith) ∙ new-hint vars (body m 4) row (records_in (body m 3) own.command + own.branch) n

  module _ (stated : StateRow (model_of m).entries (state_in m nb n) row) (range : InRange (model_of m) (state_in m nb n))
      (long : node_size (variable_count m) * nodes ≤ length nb) (few : nodes < field_limit) where
    abbrev X : Model
    X = model_of m

    abbrev B : Building
    B = held_in m nodes nb

    abbrev E : Building
    E = expanding X n B

    same : B.state n ≡ state_in m nb n
    same = counted-in nodes [] n (state_in m nb n) there

    whole : Whole vars new n
    whole = omega (arith, whole-at vars nb n nodes there long, brood.stays.long)

    -- What holds of nodes before, of children, and of those past them.
    by_place : {A : Type 0} (d : A) (x y : ℕ → A) → ((k : ℕ) → k < nodes → x k ≡ y k) → ((j : ℕ) → j < born → x (nodes + j) ≡ y (nodes + j)) → ((k : ℕ) → nodes + born ≤ k → d ≡ y k)
        → (k : ℕ) → counted (nodes + born) d k (x k) ≡ y k
    by_place {A} d x y p q r k = go (dec_lt k nodes) (dec_lt k (nodes + born))
      where
        go : Dec (k < nodes) → Dec (k < nodes + born) → counted (nodes + born) d k (x k) ≡ y k
        go (yes l) t = counted-in (nodes + born) d k (x k) (omega arith) ∙ p k l
        go (no a) (yes l) =
            let e : nodes + (k - nodes) ≡ k = omega arith in
            counted-in (nodes + born) d k (x k) l ∙ subst (λ (i : ℕ). x i ≡ y i) e (q (k - nodes) (omega arith))
        go (no a) (no b) = let h : nodes + born ≤ k = omega arith in counted-past (nodes + born) d k (x k) h ∙ r k h

    kind-is : (k : ℕ) → counted (nodes + born) Kind.waiting k (kind_of (node_in m final k kind_field)) ≡ E.kind k
    unfolding kind_of
    kind-is = by_place Kind.waiting (λ k. kind_of (node_in m final k kind_field)) E.kind (λ k l. old k l (ℕ_discrete k n) ∙ sym (grown-old nodes (put n Kind.expanded B.kind) (λ j. Kind.waiting) k l))
        (λ j h. ap kind_of (child-low j h kind_field (omega arith) (λ e. omega arith)) ∙ sym (grown-new nodes (put n Kind.expanded B.kind) (λ j. Kind.waiting) (nodes + j) (omega arith)))
        (λ k h. sym (grown-new nodes (put n Kind.expanded B.kind) (λ j. Kind.waiting) k (omega arith)))
      where
        old : (k : ℕ) → k < nodes → Dec (k ≡ n) → kind_of (node_in m final k kind_field) ≡ put n Kind.expanded B.kind k
        old k l (yes e) =
            ap (λ (i : ℕ). kind_of (node_in m final i kind_field)) e
            ∙ ap kind_of (put-there vars (put_in vars new n kind_field 1) n child_field nodes (omega arith) n kind_field (omega arith) (λ a b. omega arith) ∙ put-here vars new n kind_field 1 (omega arith) whole (omega arith))
            ∙ sym (put-at n Kind.expanded B.kind k e)
        old k l (no d) =
            ap kind_of (expand-other k kind_field l (omega arith) (λ e f. d e) (λ e f. d e))
            ∙ sym (counted-in nodes Kind.waiting k (kind_of (node_in m nb k kind_field)) l) ∙ sym (put_other n Kind.expanded B.kind k d)

    cover-is : (k : ℕ) → counted (nodes + born) 0 k (node_in m final k cover_field) ≡ E.cover k
    cover-is = by_place 0 (λ k. node_in m final k cover_field) E.cover
        (λ k l. expand-other k cover_field l (omega arith) (λ e f. omega arith) (λ e f. omega arith) ∙ sym (counted-in nodes 0 k (node_in m nb k cover_field) l) ∙ sym (grown-old nodes B.cover (λ j. 0) k l))
        (λ j h. child-low j h cover_field (omega arith) (λ e. omega arith) ∙ sym (grown-new nodes B.cover (λ j. 0) (nodes + j) (omega arith)))
        (λ k h. sym (grown-new nodes B.cover (λ j. 0) k (omega arith)))

    start_none : 0 ≡ start_set X
    unfolding start_set
    start_none = refl

    tracked-is : (k : ℕ) → counted (nodes + born) (start_set X) k (set_in m final k) ≡ E.tracked k
    tracked-is = by_place (start_set X) (λ k. set_in m final k) E.tracked
        (λ k l. expand-other k tracked_field l (omega arith) (λ e f. omega arith) (λ e f. omega arith) ∙ sym (counted-in nodes (start_set X) k (set_in m nb k) l) ∙ sym (grown-old nodes B.tracked (λ j. start_set X) k l))
        (λ j h. child-low j h tracked_field (omega arith) (λ e. omega arith) ∙ start_none ∙ sym (grown-new nodes B.tracked (λ j. start_set X) (nodes + j) (omega arith)))
        (λ k h. sym (grown-new nodes B.tracked (λ j. start_set X) k (omega arith)))

    child-is : (k : ℕ) → counted (nodes + born) 0 k (node_in m final k child_field) ≡ E.child k
    child-is = by_place 0 (λ k. node_in m final k child_field) E.child (λ k l. old k l (ℕ_discrete k n))
        (λ j h. child-low j h child_field (omega arith) (λ e. omega arith) ∙ past (nodes + j) (omega arith))
        (λ k h. past k (omega arith))
      where
        old : (k : ℕ) → k < nodes → Dec (k ≡ n) → node_in m final k child_field ≡ put n nodes B.child k
        old k l (yes e) =
            ap (λ (i : ℕ). node_in m final i child_field) e
            ∙ put-here vars (put_in vars new n kind_field 1) n child_field nodes (omega arith) (omega (arith, whole, put-long vars new n kind_field 1)) few
            ∙ sym (put-at n nodes B.child k e)
        old k l (no d) =
            expand-other k child_field l (omega arith) (λ e f. d e) (λ e f. d e) ∙ sym (counted-in nodes 0 k (node_in m nb k child_field) l) ∙ sym (put_other n nodes B.child k d)

        past : (k : ℕ) → nodes ≤ k → 0 ≡ put n nodes B.child k
        past k l = sym (counted-past nodes 0 k (node_in m nb k child_field) l) ∙ sym (put_other n nodes B.child k (λ e. omega arith))

    -- The state of a child is what its branch gives.
    child-state : (j : ℕ) (h : j < born) → state_in m final (nodes + j) ≡ next X (own j h).command (own j h).branch (state_in m nb n)
    unfolding state_in next
    child-state j h =
        let p = own j h in
        tab-same vars _ _ (λ v l.
        ap signed16 (child-field j h (state_field + v) (omega arith) ∙ new-state vars (body m 4) row (records_in (body m 3) p.command + p.branch) n v l)
        ∙ signed_back _ (result_fits valid stated p.command p.branch p.there p.within range v l)
        ∙ result-is valid stated p.command p.branch p.there p.within v l)

    abbrev children : State → ℕ → State
    children s j = get_or (offspring X s X.commands) j []

    child-born : (j : ℕ) (h : j < born) → next X (own j h).command (own j h).branch (state_in m nb n) ≡ children (state_in m nb n) j
    child-born j h =
        let p = own j h in
        let e : before X (state_in m nb n) p.command + p.branch ≡ j = omega (arith, p.is, children-is valid stated p.command (omega (arith, p.there))) in
        sym (offspring-at X (state_in m nb n) X.commands p.command p.there (sym (on-is valid stated p.command p.there) ∙ p.on) p.branch p.within) ∙ ap (children (state_in m nb n)) e

    state-is : (k : ℕ) → counted (nodes + born) [] k (state_in m final k) ≡ E.state k
    state-is = by_place [] (λ k. state_in m final k) E.state
        (λ k l.
        state-same m nb final k (λ v p. expand-other k (state_field + v) l (omega arith) (λ e f. omega arith) (λ e f. omega arith))
        ∙ sym (counted-in nodes [] k (state_in m nb k) l) ∙ sym (grown-old nodes B.state (children (B.state n)) k l))
        (λ j h.
        let e : j ≡ nodes + j - nodes = omega arith in
        child-state j h ∙ child-born j h ∙ (λ i. children (sym same i) (e i)) ∙ sym (grown-new nodes B.state (children (B.state n)) (nodes + j) (omega arith)))
        (λ k h.
        let q : length (offspring X (B.state n) X.commands) ≤ k - nodes = omega (arith, length-offspring X (B.state n) X.commands, count) in
        sym (get_or-eq_default (offspring X (B.state n) X.commands) [] q) ∙ sym (grown-new nodes B.state (children (B.state n)) k (omega arith)))
      where
        count : born ≡ births X (B.state n)
        count = children-is valid stated X.commands (omega arith) ∙ ap (births X) (sym same)

    pub expand-made : held_in m (nodes + children_in (body m 3) row (model_of m).commands) (expanded_in (variable_count m) new n nodes) ≡ apply (model_of m) (expand n) (held_in m nodes nb)
    expand-made = λ i. record {
      nodes = nodes + (children-is valid stated X.commands (omega arith) ∙ ap (births X) (sym same)) i;
      kind = λ k. kind-is k i;
      cover = λ k. cover-is k i;
      tracked = λ k. tracked-is k i;
      state = λ k. state-is k i;
      child = λ k. child-is k i;
    }
