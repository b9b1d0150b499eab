-- B2 by the flags and B2 by the readings: where all edges follow by the flags, they follow; and where one does not, because
-- of an entry that is flagged or reads unknown, none does before it, and it does not.
-- Assumes nothing.
use Prim.Native.Nat.{ℕ, zero, suc, ◌+◌, ◌<◌, ◌≤◌, zero-le}
use mathlib.Core.Path.{◌≡◌, refl, sym, ap, ap₂, ◌∙◌}
use mathlib.Core.Logic.{◌⊎◌, inl, inr}
use mathlib.Core.Bool.{Bool, true, false, not, ◌&&◌, false≢true}
use mathlib.Core.List.{List}
use native.Mathlib.Nat.{eq-or-lt_of_le, le_of_suc-le-suc, le_refl}
use native.Mathlib.Omega.{arith}
use borrow.Author.Tests.{eq-eqb, eqb-true, lt-ltb, ltb-true, not-true}
use lib.Dec.{ltb}
use lib.ListN.{get_or}
use lib.IntN.{ℤ, pos}
use Rattle.mdp.specs.Sums.{sum}
use Rattle.folder.specs.Pick.{pick, implies}
use Rattle.folder.specs.Fields.{field_limit}
use Rattle.folder.specs.Scan.{first_bad, all}
use Rattle.folder.proofs.Decides.{and_both, both-and, second-fails, implies-fails}
use Rattle.folder.proofs.ScanLaws.{found, all_true, all_of, not-all, stops-below, first-weaker}
use Rattle.whole.specs.Order.{eq_z}
use Rattle.expressions.specs.Limits.{most_expressions, no_variable}
use Rattle.expressions.specs.Reading.{reads}
use Rattle.expressions.specs.Right.{IsNumber}
use Rattle.expressions.specs.ThreeWay.{Number}
use Rattle.states.specs.Needed.{is_up, Up}
use Rattle.states.specs.Read.{is_known_number, reads_known}
use Rattle.model.specs.Model.{Model, model_of, first_record}
use Rattle.model.proofs.Chances.{record-there}
use Rattle.model.proofs.Limits.{limits}
use Rattle.graph.specs.Simulation.{Simulation, simulation_of}
use Rattle.graph.specs.Labels.{tracks, label_of, number_of}
use Rattle.graph.specs.Rules.{A1, result_is, label_follows, follows, edge_follows, edges_follow}
use Rattle.graph.specs.Seconds.{second_of, second21}
use Rattle.graph.specs.Walks.{starts_at}
use Rattle.graph.proofs.EdgePlaces.{place-start}
use Rattle.expand.specs.Node.{NodeOf, NodeRead, LabelWidened}
use Rattle.expand.specs.Tests.{reads_at}
use Rattle.expand.specs.Follow.{label_flagged, follows_by, successor_by, edge_by, edges_by, bad_edge_by, bad_branch_by, bad_record_by, bad_successor_by, apart_in, second_by, flags_of, FollowedTo, open_entry}
use Rattle.expand.proofs.Readings.{number-known, known-number}
use Rattle.std.specs.Prelude.{Option, None, Some}

abbrev taken : Option ℕ → ℕ
taken (Some x) = x
taken None = 0

some-same : {a b : ℕ} → ◌≡◌ {A = Option ℕ} (Some a) (Some b) → a ≡ b
some-same e = ap taken e

none-some : {a : ℕ} → ◌≡◌ {A = Option ℕ} None (Some a) → ⊥
none-some e = let z : ◌≡◌ {A = ℕ} 0 1 = cc in omega arith

module _ {m g : List ℕ} {n : ℕ} (node : NodeOf m g n) where
  abbrev M : Model
  M = model_of m

  abbrev G : Simulation
  G = simulation_of M g

  there : (e : ℕ) → e < G.edges n → (b : ℕ) → b < M.branches (G.command n e) → first_record M (G.command n e) + b < M.records
  there e l b k = record-there M node.model.model (G.command n e) b (node.rows.content.edges n node.there e l).command k

  -- One test of labels that passes no more than another.
  module _ (weak strong : ℕ → ℕ → ℕ → Bool) (weaker : (r s v : ℕ) → r < M.records → v < M.variables → weak r s v ≡ true → strong r s v ≡ true) where
    follows-weaker : (r s : ℕ) → r < M.records → follows_by M G n weak r s ≡ true → follows_by M G n strong r s ≡ true
    unfolding follows_by
    follows-weaker r s l h =
        let b = and_both (all (result_is M G n r s) M.variables) (all (weak r s) M.variables) h in
        both-and (all (result_is M G n r s) M.variables) (all (strong r s) M.variables) b.0
        (all_of (strong r s) M.variables (λ v k. weaker r s v l k (all_true (weak r s) M.variables b.1 v k)))

    pub edge-weaker : (e : ℕ) → e < G.edges n → edge_by M G n weak e ≡ true → edge_by M G n strong e ≡ true
    unfolding edge_by
    edge-weaker e l h =
        all_of (successor_by M G n strong e) (M.branches (G.command n e))
        (λ b k. follows-weaker _ _ (there e l b k) (all_true (successor_by M G n weak e) (M.branches (G.command n e)) h b k))

    pub edges-hold : edges_by M G n weak ≡ true → edges_by M G n strong ≡ true
    edges-hold h = all_of (edge_by M G n strong) (G.edges n) (λ e l. edge-weaker e l (all_true (edge_by M G n weak) (G.edges n) h e l))

    module _ (broken : edges_by M G n weak ≡ false) where
      abbrev e : ℕ
      e = bad_edge_by M G n weak

      abbrev b : ℕ
      b = bad_branch_by M G n weak

      abbrev r : ℕ
      r = bad_record_by M G n weak

      abbrev s : ℕ
      s = bad_successor_by M G n weak

      edge-there : e < G.edges n
      edge-there = stops-below (edge_by M G n weak) (G.edges n) broken

      branch-there : b < M.branches (G.command n e)
      unfolding edge_by
      branch-there = stops-below (successor_by M G n weak e) (M.branches (G.command n e)) ((found (edge_by M G n weak) (G.edges n)).broken edge-there)

      pub record-here : r < M.records
      record-here = there e edge-there b branch-there

      not-followed : follows_by M G n weak r s ≡ false
      not-followed = (found (successor_by M G n weak e) (M.branches (G.command n e))).broken branch-there

      -- The variable, where the concrete label is right.
      variable-there : all (result_is M G n r s) M.variables ≡ true → first_bad (weak r s) M.variables < M.variables
      unfolding follows_by
      variable-there h = stops-below (weak r s) M.variables (second-fails _ _ h not-followed)

      pub weak-fails : second_by M G n weak < M.variables → weak r s (second_by M G n weak) ≡ false
      unfolding apart_in
      weak-fails l = go (all (result_is M G n r s) M.variables) refl l
        where
          few : M.variables ≤ no_variable
          few = omega (arith, (limits node.model.folder).variables)

          go : (t : Bool) → all (result_is M G n r s) M.variables ≡ t → pick t (first_bad (weak r s) M.variables) no_variable < M.variables → weak r s (pick t (first_bad (weak r s) M.variables) no_variable) ≡ false
          go true h k = (found (weak r s) M.variables).broken k
          go false h k = absurd (omega (arith, few))

      module _ (decided : second_by M G n weak < M.variables → strong r s (second_by M G n weak) ≡ false) where
        -- At the branch both tests break, by the same variable.
        both-break : (t : Bool) → all (result_is M G n r s) M.variables ≡ t → (follows_by M G n strong r s ≡ false) × (apart_in M G n weak r s ≡ apart_in M G n strong r s)
        unfolding follows_by apart_in
        both-break false h = rw h (refl, refl)
        both-break true h =
            let l = variable-there h in
            let d : strong r s (first_bad (weak r s) M.variables) ≡ false = rw h at decided l in (
              rw h (not-all (strong r s) M.variables (first_bad (weak r s) M.variables) l d),
              rw h (first-weaker (weak r s) (strong r s) M.variables (λ v k. weaker r s v record-here k) (λ k. d)),
            )

        branches-same : b ≡ first_bad (successor_by M G n strong e) (M.branches (G.command n e))
        branches-same = first-weaker (successor_by M G n weak e) (successor_by M G n strong e) (M.branches (G.command n e))
            (λ k l. follows-weaker _ _ (there e edge-there k l)) (λ l. (both-break (all (result_is M G n r s) M.variables) refl).0)

        edge-fails : edge_by M G n strong e ≡ false
        unfolding edge_by
        edge-fails = not-all (successor_by M G n strong e) (M.branches (G.command n e)) b branch-there (both-break (all (result_is M G n r s) M.variables) refl).0

        edges-same : e ≡ bad_edge_by M G n strong
        edges-same = first-weaker (edge_by M G n weak) (edge_by M G n strong) (G.edges n) edge-weaker (λ l. edge-fails)

        pub edges-fail : edges_by M G n strong ≡ false
        edges-fail = not-all (edge_by M G n strong) (G.edges n) e edge-there edge-fails

        pub seconds-same : second_by M G n weak ≡ second_by M G n strong
        seconds-same =
            (both-break (all (result_is M G n r s) M.variables) refl).1
            ∙ ap (λ (k : ℕ). apart_in M G n strong (first_record M (G.command n e) + k) (G.successor n e k)) branches-same
            ∙ ap (λ (k : ℕ). apart_in M G n strong (first_record M (G.command n k) + first_bad (successor_by M G n strong k) (M.branches (G.command n k))) (G.successor n k (first_bad (successor_by M G n strong k) (M.branches (G.command n k))))) edges-same

  -- ---- the rule's own test
  edges-rule : edges_by M G n (label_follows M G n) ≡ edges_follow M G n
  unfolding edge_by follows_by edge_follows follows
  edges-rule = refl

  second-rule : second_by M G n (label_follows M G n) ≡ second21 M G n
  unfolding edge_by follows_by edge_follows follows apart_in second21 second_of
  second-rule = refl

  module _ (h : A1 M G n ≡ true) {known : List ℕ} {state : List ℤ} (read : NodeRead m g n known state) where
    assigned-number : (r v : ℕ) → r < M.records → v < M.variables → IsNumber M.entries (M.assigned r v)
    assigned-number r v l k = (node.model.model.branches r l).number v k

    up-known : (a : ℕ) → IsNumber M.entries a → is_up known a ≡ true → number_of M G n a ≡ Some (get_or state a (pos 0))
    up-known a i k = known-number node h read.stated i (read.flagged.sound a i.there (eqb-true (get_or known a 0) 1 k))

    flags-weaker : (r s v : ℕ) → r < M.records → v < M.variables → label_flagged M G known state r s v ≡ true → label_follows M G n r s v ≡ true
    unfolding label_flagged label_follows reads_at
    flags-weaker r s v l k q = go (tracks G s v) q
      where
        a : ℕ
        a = M.assigned r v

        go : (t : Bool) → implies t (is_up known (M.assigned r v) && eq_z (get_or state (M.assigned r v) (pos 0)) (G.label s v)) ≡ true → implies t (reads (number_of M G n (M.assigned r v)) (G.label s v)) ≡ true
        go true p =
            let b = and_both (is_up known (M.assigned r v)) (eq_z (get_or state (M.assigned r v) (pos 0)) (G.label s v)) p in
            ap (λ (z : Number). reads z (G.label s v)) (up-known (M.assigned r v) (assigned-number r v l k) b.0) ∙ b.1
        go false p = refl

    -- What breaks by the flags breaks, where the entry is flagged, or reads unknown.
    flags-decide : (r s v : ℕ) → r < M.records → v < M.variables → label_flagged M G known state r s v ≡ false
        → (is_up known (M.assigned r v) ≡ false → reads_known M.entries (label_of M G n) (M.assigned r v) ≡ false) → label_follows M G n r s v ≡ false
    unfolding label_flagged label_follows reads_at
    flags-decide r s v l k q d =
        let p = implies-fails (tracks G s v) (is_up known (M.assigned r v) && eq_z (get_or state (M.assigned r v) (pos 0)) (G.label s v)) q in
        rw p.0 (go (is_up known (M.assigned r v)) refl p.1)
      where
        open-so : (a : Number) → is_known_number a ≡ false → (z : ℤ) → reads a z ≡ false
        open-so (Some y) b z = absurd (false≢true (sym b))
        open-so None b z = refl

        go : (t : Bool) → is_up known (M.assigned r v) ≡ t → (t && eq_z (get_or state (M.assigned r v) (pos 0)) (G.label s v)) ≡ false → reads (number_of M G n (M.assigned r v)) (G.label s v) ≡ false
        go true u f = ap (λ (z : Number). reads z (G.label s v)) (up-known (M.assigned r v) (assigned-number r v l k) u) ∙ f
        go false u f = open-so (number_of M G n (M.assigned r v)) (sym (number-known node (assigned-number r v l k)) ∙ d u) (G.label s v)

    abbrev flags : ℕ → ℕ → ℕ → Bool
    flags = label_flagged M G known state

    pub all-follow : edges_by M G n flags ≡ true → true ≡ edges_follow M G n
    all-follow k = sym (sym edges-rule ∙ edges-hold flags (label_follows M G n) flags-weaker k)

    module _ (broken : edges_by M G n flags ≡ false) where
      module _ (unknown : second_by M G n flags < M.variables → is_up known (M.assigned (bad_record_by M G n flags) (second_by M G n flags)) ≡ false
          → reads_known M.entries (label_of M G n) (M.assigned (bad_record_by M G n flags) (second_by M G n flags)) ≡ false) where
        decided : second_by M G n flags < M.variables → label_follows M G n (bad_record_by M G n flags) (bad_successor_by M G n flags) (second_by M G n flags) ≡ false
        decided l = flags-decide _ _ _ (record-here flags (label_follows M G n) flags-weaker broken) l (weak-fails flags (label_follows M G n) flags-weaker broken l) (unknown l)

        pub not-all-follow : false ≡ edges_follow M G n
        not-all-follow = sym (sym edges-rule ∙ edges-fail flags (label_follows M G n) flags-weaker broken decided)

        pub second_is : {v : ℕ} → v ≡ second_by M G n flags → v ≡ second21 M G n
        second_is o = o ∙ seconds-same flags (label_follows M G n) flags-weaker broken decided ∙ second-rule

      -- It was asked, and reads unknown.
      pub stays-unknown : {e : ℕ} → e ≡ M.assigned (bad_record_by M G n flags) (second_by M G n flags) → {after : List ℕ} → LabelWidened m g n e known after → {a : Bool} → a ≡ is_up after e → a ≡ false
          → second_by M G n flags < M.variables → is_up known (M.assigned (bad_record_by M G n flags) (second_by M G n flags)) ≡ false
          → reads_known M.entries (label_of M G n) (M.assigned (bad_record_by M G n flags) (second_by M G n flags)) ≡ false
      stays-unknown p w i f l d = ap (reads_known M.entries (label_of M G n)) (sym p) ∙ sym w.decided ∙ sym i ∙ f

      pub record-small : {r : ℕ} → r ≡ bad_record_by M G n flags → r ≤ field_limit
      record-small p = omega (arith, record-here flags (label_follows M G n) flags-weaker broken, (limits node.model.folder).records)

      module _ {r v : ℕ} (p : r ≡ bad_record_by M G n flags) (o : v ≡ second_by M G n flags) where
        abbrev entry : ℕ
        entry = M.assigned (bad_record_by M G n flags) (second_by M G n flags)

        abbrev is_open : Bool
        is_open = ltb (second_by M G n flags) M.variables && not (is_up known entry)

        entry_here : second_by M G n flags < M.variables → entry < M.entries.count
        entry_here l = (assigned-number _ _ (record-here flags (label_follows M G n) flags-weaker broken) l).there

        -- What is to be asked.
        asked : {x : Option ℕ} → x ≡ open_entry M known r v → x ≡ pick is_open (Some entry) None
        unfolding open_entry
        asked i = i ∙ ap₂ (open_entry M known) p o

        -- No entry: the one that breaks it is flagged.
        pub none_open : None ≡ open_entry M known r v → second_by M G n flags < M.variables → is_up known entry ≡ false → reads_known M.entries (label_of M G n) entry ≡ false
        none_open i l d = absurd (none-some {a = entry} (asked i ∙ rw (lt-ltb (second_by M G n flags) M.variables l, d) refl))

        pub one-open : {e : ℕ} → Some e ≡ open_entry M known r v → (e < M.entries.count) × (is_up known e ≡ false) × (e ≡ entry)
        one-open {e} i = go is_open refl (asked i)
          where
            go : (c : Bool) → is_open ≡ c → Some e ≡ pick c (Some entry) None → (e < M.entries.count) × (is_up known e ≡ false) × (e ≡ entry)
            go true c j =
                let w = and_both (ltb (second_by M G n flags) M.variables) (not (is_up known entry)) c in
                let q = some-same j in
                (rw q (entry_here (ltb-true _ _ w.0)), ap (is_up known) q ∙ not-true (is_up known entry) w.1, q)
            go false c j = absurd (none-some (sym j))

-- ---- how far the walk over the edges has come
pub at-start : (m g : List ℕ) (n : ℕ) (label : ℕ → ℕ → ℕ → Bool) {p : ℕ} → p ≡ starts_at (model_of m) g n → FollowedTo m g n label 0 p
at-start m g n label q = record { within = zero-le; before = λ k l. absurd (omega arith); stands = place-start _ _ _ q }

-- What follows by some flags follows by more.
pub followed-on : {m g : List ℕ} {n : ℕ} → NodeOf m g n → {asked : ℕ} {before after : List ℕ} → LabelWidened m g n asked before after → (state : List ℤ)
    → {e p : ℕ} → FollowedTo m g n (flags_of m g before state) e p → FollowedTo m g n (flags_of m g after state) e p
unfolding label_flagged reads_at
followed-on {m} {g} node {before = before} {after} w state f = record {
  within = f.within;
  before = λ k l. edge-weaker node (flags_of m g before state) (flags_of m g after state) weaker k (omega (arith, f.within)) (f.before k l);
  stands = f.stands;
}
  where
    weaker : (r s v : ℕ) → r < (model_of m).records → v < (model_of m).variables → flags_of m g before state r s v ≡ true → flags_of m g after state r s v ≡ true
    weaker r s v l k = go (tracks (simulation_of (model_of m) g) s v)
      where
        go : (t : Bool) → implies t (is_up before ((model_of m).assigned r v) && eq_z (get_or state ((model_of m).assigned r v) (pos 0)) ((simulation_of (model_of m) g).label s v)) ≡ true
            → implies t (is_up after ((model_of m).assigned r v) && eq_z (get_or state ((model_of m).assigned r v) (pos 0)) ((simulation_of (model_of m) g).label s v)) ≡ true
        go true p =
            let b = and_both (is_up before ((model_of m).assigned r v)) (eq_z (get_or state ((model_of m).assigned r v) (pos 0)) ((simulation_of (model_of m) g).label s v)) p in
            both-and (is_up after ((model_of m).assigned r v)) _ (eq-eqb _ 1 (w.more ((model_of m).assigned r v) (eqb-true _ 1 b.0))) b.1
        go false p = refl

-- ---- how many entries are not flagged
abbrev pub open_flags : ℕ → List ℕ → ℕ
open_flags n known = sum n (λ e _. pick (is_up known e) 0 1)

module _ (before after : List ℕ) (more : (k : ℕ) → Up before k → Up after k) where
  one : (k : ℕ) → pick (is_up after k) 0 1 ≤ pick (is_up before k) 0 1
  one k = go (is_up before k) refl (is_up after k) refl
    where
      go : (a : Bool) → is_up before k ≡ a → (b : Bool) → is_up after k ≡ b → pick b 0 1 ≤ pick a 0 1
      go a p true q = zero-le
      go false p false q = le_refl 1
      go true p false q = absurd (false≢true (sym q ∙ eq-eqb (get_or after k 0) 1 (more k (eqb-true (get_or before k 0) 1 p))))

  no_more : (n : ℕ) → open_flags n after ≤ open_flags n before
  no_more zero = zero-le
  no_more (suc n) = omega (arith, no_more n, one n)

  pub fewer-open : (n e : ℕ) → e < n → is_up before e ≡ false → is_up after e ≡ true → open_flags n after < open_flags n before
  fewer-open zero e l p q = absurd (omega arith)
  fewer-open (suc n) e l p q = go (eq-or-lt_of_le (le_of_suc-le-suc l)) (λ k. fewer-open n e k p q)
    where
      go : (e ≡ n) ⊎ (e < n) → (e < n → open_flags n after < open_flags n before) → open_flags n after + pick (is_up after n) 0 1 < open_flags n before + pick (is_up before n) 0 1
      go (inl k) f = rw (← k, p, q) (omega (arith, no_more e))
      go (inr k) f = omega (arith, f k, one n)

-- One fewer after an entry was asked that reads known.
pub fewer-after : {m g : List ℕ} {n : ℕ} → NodeOf m g n → {e : ℕ} → e < (model_of m).entries.count → {before after : List ℕ} → is_up before e ≡ false → LabelWidened m g n e before after
    → {a : Bool} → a ≡ is_up after e → a ≡ true → open_flags most_expressions after < open_flags most_expressions before
fewer-after node l {before} {after} d w i k = fewer-open before after w.more most_expressions _ (omega (arith, (limits node.model.folder).expressions)) d (sym i ∙ k)
