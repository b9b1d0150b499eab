-- Every move that may be made keeps what is kept.
-- Assumes nothing.
use Prim.Native.Nat.{ℕ, ◌+◌, ◌-◌, ◌^◌, ◌<◌, ◌≤◌}
use mathlib.Core.Path.{◌≡◌, refl, sym, ap, ◌∙◌, subst}
use mathlib.Core.Logic.{◌⊎◌, inl, inr, ⊎_elim}
use mathlib.Core.Bool.{Bool, true, false, false≢true}
use mathlib.Core.List.{[]}
use native.Mathlib.Decide.{dec_lt, ℕ_discrete}
use native.Mathlib.Omega.{arith}
use lib.Pow.{pow-lt}
use lib.ListN.{get_or, get_or-eq_default}
use Rattle.mdp.specs.Kinds.{Kind}
use Rattle.expressions.specs.Meaning.{State, truth_in}
use Rattle.expressions.specs.Reading.{has_bit}
use Rattle.expressions.specs.Mentions.{union}
use Rattle.expressions.proofs.Bits.{in_left}
use Rattle.model.specs.Model.{Model}
use Rattle.model.specs.Chances.{InRange, initial_state}
use Rattle.model.specs.Valid.{ModelRight}
use Rattle.model.proofs.Chances.{initial-in-range}
use Rattle.building.specs.First.{put, grown}
use Rattle.building.specs.Building.{Building, start_set, before, births, offspring, is_open}
use Rattle.building.specs.Moves.{Move, Limit, tracking, becoming, expanding, apply, seed}
use Rattle.building.specs.Kept.{Parent, Under, Kept, Apt, may-track, may-adopt, may-drop, may-cover_by, may-reach, may-expand}
use Rattle.building.proofs.SetLaws.{union-small, start_small}
use Rattle.building.proofs.FirstLaws.{put_same, put-at, put_other, put_all, grown-old, grown-new, grown-past, grown-all}
use Rattle.building.proofs.OffspringLaws.{length-offspring, before-within, offspring-at, offspring-in-range}

-- Two kinds are not one.
abbrev pub is_waiting : Kind → Bool
is_waiting Kind.waiting = true
is_waiting Kind.expanded = false
is_waiting Kind.covered = false
is_waiting Kind.target = false

abbrev is_expanded : Kind → Bool
is_expanded Kind.waiting = false
is_expanded Kind.expanded = true
is_expanded Kind.covered = false
is_expanded Kind.target = false

abbrev is_target : Kind → Bool
is_target Kind.waiting = false
is_target Kind.expanded = false
is_target Kind.covered = false
is_target Kind.target = true

module _ (M : Model) (P : Limit) (B : Building) (K : Kept M P.most B) where
  -- ---- node n's label grows
  kept-tracking : (n : ℕ) → n < B.nodes → (t : ℕ) → t < 2 ^ M.variables → ((v : ℕ) → has_bit (start_set M) v ≡ true → has_bit t v ≡ true) → Kept M P.most (tracking n t B)
  kept-tracking n l t small started = record {
    some = K.some;
    few = K.few;
    root = K.root;
    states = K.states;
    small = λ i m. put_all (λ _ (u : ℕ). u < 2 ^ M.variables) n t B.tracked i (λ _. small) (λ _. K.small i m);
    started = λ i m v. put_all (λ _ (u : ℕ). has_bit (start_set M) v ≡ true → has_bit u v ≡ true) n t B.tracked i (λ _. started v) (λ _. K.started i m v);
    targets = K.targets;
    parents = K.parents;
    covers = K.covers;
    past = λ i m.
        let b = K.past i m in
        record { kind = b.kind; cover = b.cover; tracked = put_other n t B.tracked i (λ e. omega arith) ∙ b.tracked; state = b.state; child = b.child };
  }

  -- ---- node n, which covers nothing, changes its kind
  module _ (n : ℕ) (l : n < B.nodes) (shut : is_open (B.kind n) ≡ false) (k : Kind) (c : ℕ) where
    still_open : (i : ℕ) → is_open (B.kind i) ≡ true → is_open (put n k B.kind i) ≡ true
    still_open i o = put_all (λ _ (κ : Kind). is_open κ ≡ true) n k B.kind i (λ e. absurd (false≢true (sym shut ∙ ap (λ (j : ℕ). is_open (B.kind j)) (sym e) ∙ o))) (λ _. o)

    still-under : (i : ℕ) → Under M B.nodes B.kind i → Under M B.nodes (put n k B.kind) i
    still-under i u = record { there = u.there; opened = still_open i u.opened }

    kept-becoming : (k ≡ Kind.target → truth_in M.entries (B.state n) M.target ≡ true) → (k ≡ Kind.expanded → ⊥)
        → (k ≡ Kind.covered → Under M B.nodes B.kind c) → Kept M P.most (becoming n k c B)
    kept-becoming target expanded covered = record {
      some = K.some;
      few = K.few;
      root = K.root;
      states = K.states;
      small = K.small;
      started = K.started;
      targets = λ i m. put_all (λ j (κ : Kind). κ ≡ Kind.target → truth_in M.entries (B.state j) M.target ≡ true) n k B.kind i (λ e q. rw e (target q)) (λ _. K.targets i m);
      parents = λ i m. put_all (λ j (κ : Kind). κ ≡ Kind.expanded → Parent M B.nodes B.state (B.child j) (B.state j)) n k B.kind i (λ e q. absurd (expanded q)) (λ _. K.parents i m);
      covers = λ i m. put_all (λ j (κ : Kind). κ ≡ Kind.covered → Under M B.nodes (put n k B.kind) (put n c B.cover j)) n k B.kind i
          (λ e q. rw (put-at n c B.cover i e) (still-under c (covered q)))
          (λ d q. rw (put_other n c B.cover i d) (still-under (B.cover i) (K.covers i m q)));
      past = λ i m.
          let b = K.past i m in
          let d : i ≡ n → ⊥ = λ e. omega arith in
          record {
            kind = put_other n k B.kind i d ∙ b.kind;
            cover = put_other n c B.cover i d ∙ b.cover;
            tracked = b.tracked;
            state = b.state;
            child = b.child;
          };
    }

  -- ---- node n is expanded
  module _ (R : ModelRight M) (n : ℕ) (l : n < B.nodes) (waits : B.kind n ≡ Kind.waiting) (no_target : truth_in M.entries (B.state n) M.target ≡ false) (room : B.nodes + births M (B.state n) ≤ P.most) where
    abbrev C : Building
    C = expanding M n B

    shut : is_open (B.kind n) ≡ false
    shut = ap is_open waits

    pub state-old : (i : ℕ) → i < B.nodes → C.state i ≡ B.state i
    state-old i = grown-old B.nodes B.state (λ j. get_or (offspring M (B.state n) M.commands) j []) i

    pub kind-old : (i : ℕ) → i < B.nodes → C.kind i ≡ put n Kind.expanded B.kind i
    kind-old i = grown-old B.nodes (put n Kind.expanded B.kind) (λ j. Kind.waiting) i

    pub kind-new : (i : ℕ) → B.nodes ≤ i → C.kind i ≡ Kind.waiting
    kind-new i = grown-new B.nodes (put n Kind.expanded B.kind) (λ j. Kind.waiting) i

    pub cover-old : (i : ℕ) → i < B.nodes → C.cover i ≡ B.cover i
    cover-old i = grown-old B.nodes B.cover (λ j. 0) i

    -- Node n itself, and the parents there were.
    new-parent : Parent M C.nodes C.state (C.child n) (C.state n)
    new-parent = rw (state-old n l, put_same n B.nodes B.child) (record {
      no_target = no_target;
      there = omega arith;
      results = λ c k e b p.
          ap (grown B.nodes B.state (λ j. get_or (offspring M (B.state n) M.commands) j [])) (omega arith)
          ∙ grown-past B.nodes B.state (λ j. get_or (offspring M (B.state n) M.commands) j []) (before M (B.state n) c + b)
          ∙ offspring-at M (B.state n) M.commands c k e b p;
    })

    old-parent : (i : ℕ) → i < B.nodes → (i ≡ n → ⊥) → Parent M B.nodes B.state (B.child i) (B.state i) → Parent M C.nodes C.state (C.child i) (C.state i)
    old-parent i m d p = rw (state-old i m, put_other n B.nodes B.child i d) (record {
      no_target = p.no_target;
      there = omega (arith, p.there);
      results = λ c k e b h. state-old (B.child i + before M (B.state i) c + b) (omega (arith, p.there, before-within M (B.state i) M.commands c k e)) ∙ p.results c k e b h;
    })

    old-under : (i : ℕ) → Under M B.nodes B.kind i → Under M C.nodes C.kind i
    old-under i u = record { there = omega (arith, u.there); opened = rw (kind-old i u.there) (still_open n l shut Kind.expanded 0 i u.opened) }

    -- A node that does not wait afterwards is n, or did not wait before.
    abbrev Was : ℕ → Kind → Type 0
    Was i κ = ((i ≡ n) × (κ ≡ Kind.expanded)) ⊎ ((i < B.nodes) × (i ≡ n → ⊥) × (B.kind i ≡ κ))

    was : (i : ℕ) (κ : Kind) → is_waiting κ ≡ false → C.kind i ≡ κ → Was i κ
    was i κ h e = go (dec_lt i B.nodes) (ℕ_discrete i n)
      where
        go : Dec (i < B.nodes) → Dec (i ≡ n) → Was i κ
        go (yes m) (yes q) = inl (q, sym e ∙ kind-old i m ∙ put-at n Kind.expanded B.kind i q)
        go (yes m) (no d) = inr (m, d, sym (put_other n Kind.expanded B.kind i d) ∙ sym (kind-old i m) ∙ e)
        go (no g) d = absurd (false≢true (sym h ∙ ap is_waiting (sym e ∙ kind-new i (omega arith))))

    kept-expanding : Kept M P.most C
    kept-expanding = record {
      some = omega (arith, K.some);
      few = room;
      root = state-old 0 K.some ∙ K.root;
      states = λ i m. grown-all (λ _ (s : State). InRange M s) B.nodes B.state (λ j. get_or (offspring M (B.state n) M.commands) j []) i (K.states i)
          (λ q. offspring-in-range M (B.state n) R (K.states n l) M.commands (omega arith) (i - B.nodes) (omega arith));
      small = λ i m. grown-all (λ _ (t : ℕ). t < 2 ^ M.variables) B.nodes B.tracked (λ j. start_set M) i (λ q. K.small i q) (λ q. start_small M);
      started = λ i m v. grown-all (λ _ (t : ℕ). has_bit (start_set M) v ≡ true → has_bit t v ≡ true) B.nodes B.tracked (λ j. start_set M) i (λ q. K.started i q v) (λ q e. e);
      targets = λ i m e. ⊎_elim (λ w. absurd (false≢true (sym (ap is_target w.1)))) (λ w. rw (state-old i w.0) (K.targets i w.0 w.2)) (was i Kind.target refl e);
      parents = λ i m e. ⊎_elim (λ w. subst (λ (j : ℕ). Parent M C.nodes C.state (C.child j) (C.state j)) (sym w.0) new-parent) (λ w. old-parent i w.0 w.1 (K.parents i w.0 w.2)) (was i Kind.expanded refl e);
      covers = λ i m e. ⊎_elim (λ w. absurd (false≢true (ap is_expanded w.1))) (λ w. rw (cover-old i w.0) (old-under (B.cover i) (K.covers i w.0 w.2))) (was i Kind.covered refl e);
      past = λ i m.
          let old : B.nodes ≤ i = omega arith in
          let b = K.past i old in
          record {
            kind = kind-new i old;
            cover = grown-new B.nodes B.cover (λ j. 0) i old;
            tracked = grown-new B.nodes B.tracked (λ j. start_set M) i old;
            state = grown-new B.nodes B.state (λ j. get_or (offspring M (B.state n) M.commands) j []) i old
                ∙ get_or-eq_default (offspring M (B.state n) M.commands) [] {n = i - B.nodes} (omega (arith, length-offspring M (B.state n) M.commands));
            child = put_other n B.nodes B.child i (λ e. omega arith) ∙ b.child;
          };
    }

-- ---- each move
module _ (M : Model) (P : Limit) (R : ModelRight M) where
  pub kept : (B : Building) → Kept M P.most B → (m : Move) → Apt M P B m → Kept M P.most (apply M m B)
  kept B K m (may-track {n = n} {v = v} l k u) =
      kept-tracking M P B K n l (union (B.tracked n) (2 ^ v)) (union-small M.variables (B.tracked n) (2 ^ v) (K.small n l) (pow-lt k)) (λ w s. in_left (B.tracked n) (2 ^ v) w (K.started n l w s))
  kept B K m (may-adopt {n = n} v l c k t u) =
      kept-tracking M P B K n l (union (B.tracked n) (B.tracked (B.cover n))) (union-small M.variables (B.tracked n) (B.tracked (B.cover n)) (K.small n l) (K.small (B.cover n) (K.covers n l c).there))
      (λ w s. in_left (B.tracked n) (B.tracked (B.cover n)) w (K.started n l w s))
  kept B K m (may-drop {n = n} l c x) = kept-becoming M P B K n l (ap is_open c) Kind.waiting 0 (λ e. absurd (false≢true (ap is_target e))) (λ e. absurd (false≢true (ap is_expanded e))) (λ e. absurd (false≢true (sym (ap is_waiting e))))
  kept B K m (may-cover_by {n = n} {c = c} l w h o x) = kept-becoming M P B K n l (ap is_open w) Kind.covered c (λ e. absurd (false≢true (ap is_target e))) (λ e. absurd (false≢true (ap is_expanded e))) (λ e. record { there = h; opened = o })
  kept B K m (may-reach {n = n} l w t) = kept-becoming M P B K n l (ap is_open w) Kind.target 0 (λ e. t) (λ e. absurd (false≢true (ap is_expanded e))) (λ e. absurd (false≢true (sym (ap is_target e))))
  kept B K m (may-expand {n = n} l w t room fits) = kept-expanding M P B K R n l w t room

  pub kept-seed : 1 ≤ P.most → Kept M P.most (seed M)
  kept-seed l = record {
    some = omega arith;
    few = l;
    root = put_same 0 (initial_state M) (λ n. []);
    states = λ n k. rw (put-at 0 (initial_state M) (λ n. []) n (omega arith)) (initial-in-range M R);
    small = λ n k. start_small M;
    started = λ n k v e. e;
    targets = λ n k e. absurd (false≢true (ap is_target e));
    parents = λ n k e. absurd (false≢true (ap is_expanded e));
    covers = λ n k e. absurd (false≢true (sym (ap is_waiting e)));
    past = λ n k. record { kind = refl; cover = refl; tracked = refl; state = put_other 0 (initial_state M) (λ n. []) n (λ e. omega arith); child = refl };
  }
