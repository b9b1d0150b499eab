-- Every move keeps what the builder knows besides the graph.
-- Assumes nothing.
use Rattle.std.specs.Prelude.{None}
use Prim.Native.Nat.{ℕ, ◌+◌, ◌-◌, ◌^◌, ◌<◌, ◌≤◌}
use mathlib.Core.Path.{◌≡◌, refl, sym, ap, ◌∙◌, subst}
use mathlib.Core.Logic.{◌⊎◌, inl, inr, ⊎_elim}
use mathlib.Core.Bool.{Bool, true, false, false≢true, ◌&&◌}
use mathlib.Core.List.{[]}
use native.Mathlib.Decide.{dec_lt, ℕ_discrete}
use native.Mathlib.Omega.{arith}
use lib.ListN.{get_or}
use Rattle.mdp.specs.Kinds.{Kind}
use Rattle.expressions.specs.Meaning.{State}
use Rattle.expressions.specs.Reading.{has_bit}
use Rattle.expressions.proofs.Bits.{no-bit}
use Rattle.model.specs.Model.{Model, first_record}
use Rattle.building.specs.First.{put}
use Rattle.building.specs.Building.{Building, start_set, enabled, before, births, offspring, is_open, child_by, contains}
use Rattle.building.specs.Moves.{Move, Limit, tracking, becoming, expanding, apply, truth_wants, number_wants, guards_want, expanded_wants, can_cover, repair_as, repair, track, expand}
use Rattle.building.specs.Kept.{Kept, Mended}
use Rattle.building.specs.Near.{Clear, OutOfReach}
use Rattle.building.specs.Working.{ReadRight, ParentRight, Settled, HintRight, ReachRight, MarkRight, NextRight}
use Rattle.building.proofs.FirstLaws.{put-at, put_other, put_all, grown-old, grown-new, orelse-none, onward-none}
use Rattle.building.proofs.OffspringLaws.{before-within}
use Rattle.building.proofs.Keeping.{is_waiting}
use Rattle.building.proofs.Nearness.{out-of-reach, new-wants-none}
use Rattle.building.proofs.Growing.{number-stays, truth-stays, guards-stay, agrees-fewer}

and_left : (a b : Bool) → a ≡ false → (a && b) ≡ false
and_left true b e = absurd (false≢true (sym e))
and_left false b e = refl

and-false : (a b : Bool) → b ≡ false → (a && b) ≡ false
and-false true b e = e
and-false false b e = refl

and_right : (a b c : Bool) → (b ≡ false → c ≡ false) → (a && b) ≡ false → (a && c) ≡ false
and_right true b c h e = h e
and_right false b c h e = refl

-- ---- a label grows
module _ (M : Model) (P : Limit) (B : Building) (K : Kept M P.most B) (n t : ℕ) (more : (v : ℕ) → has_bit (B.tracked n) v ≡ true → has_bit t v ≡ true) (small : t < 2 ^ M.variables) where
  abbrev T : Building
  T = tracking n t B

  pub read-tracking : {read : ℕ → ℕ} → ReadRight M B read → ReadRight M T read
  read-tracking R = record {
    is = λ i l k c h e b q v x. number-stays M B n t more small i (K.small i l) (K.states i l) (M.assigned (first_record M c + b) v) (R.is i l k c h e b q v x);
  }

  pub settled-tracking : {fresh : ℕ} → Settled M B fresh → Settled M T fresh
  settled-tracking S = record {
    is = λ i l d k.
        let s = S.is i l d k in
        (guards-stay M B n t more small i (K.small i l) (K.states i l) s.0, truth-stays M B n t more small i (K.small i l) (K.states i l) M.target s.1);
  }

  pub parent-tracking : {parent : ℕ → ℕ} → ParentRight M B parent → ParentRight M T parent
  parent-tracking R = record { is = R.is }

  contains-fewer : (c : ℕ) (s : State) → contains M B c s ≡ false → contains M T c s ≡ false
  contains-fewer c s h = go (ℕ_discrete c n)
    where
      go : Dec (c ≡ n) → contains M T c s ≡ false
      go (yes q) = rw (put-at n t B.tracked c q) (agrees-fewer M (B.tracked c) t (B.state c) s (λ v b. more v (ap (λ (k : ℕ). has_bit (B.tracked k) v) (sym q) ∙ b)) h)
      go (no d) = rw (put_other n t B.tracked c d) h

  pub hint-tracking : {hint : ℕ → ℕ} {fresh : ℕ} → HintRight M B hint fresh → HintRight M T hint fresh
  hint-tracking H = record { within = H.within; is = λ i l c x y d. and_right (is_open (B.kind c)) (contains M B c (B.state i)) (contains M T c (B.state i)) (contains-fewer c (B.state i)) (H.is i l c x y d) }

  pub reach-tracking : {reach : ℕ → ℕ} → ReachRight M B reach → ReachRight M T reach
  reach-tracking R = record { is = R.is }

  pub next-tracking : {next : ℕ} → NextRight M B next → NextRight M T next
  next-tracking N = record { is = N.is }

-- ---- a kind changes: node n is not expanded, neither before nor after
module _ (M : Model) (B : Building) (n : ℕ) (κ : Kind) (c : ℕ) (later : κ ≡ Kind.expanded → ⊥) where
  abbrev U : Building
  U = becoming n κ c B

  was-expanded : (i : ℕ) → U.kind i ≡ Kind.expanded → B.kind i ≡ Kind.expanded
  was-expanded i = put_all (λ j (k : Kind). k ≡ Kind.expanded → B.kind j ≡ Kind.expanded) n κ B.kind i (λ e k. absurd (later k)) (λ d k. k)

  labels-same : (i e : ℕ) → number_wants M U i e ≡ number_wants M B i e
  unfolding number_wants
  labels-same i e = refl

  truths-same : (i e : ℕ) → truth_wants M U i e ≡ truth_wants M B i e
  unfolding truth_wants
  truths-same i e = refl

  guards-same : (i : ℕ) → guards_want M U i ≡ guards_want M B i
  unfolding guards_want truth_wants
  guards-same i = refl

  pub read-becoming : {read : ℕ → ℕ} → ReadRight M B read → ReadRight M U read
  read-becoming R = record { is = λ i l k d h e b q v x. labels-same i _ ∙ R.is i l (was-expanded i k) d h e b q v x }

  pub settled-becoming : {fresh : ℕ} → Settled M B fresh → Settled M U fresh
  settled-becoming S = record { is = λ i l d k. let s = S.is i l d (was-expanded i k) in (guards-same i ∙ s.0, truths-same i M.target ∙ s.1) }

  pub parent-becoming : {parent : ℕ → ℕ} → ParentRight M B parent → ParentRight M U parent
  parent-becoming R = record { is = λ i l k j h. R.is i l (was-expanded i k) j h }

  -- It cannot cover, or it is the one opened last.
  pub hint-becoming : {hint : ℕ → ℕ} {fresh later : ℕ} → (is_open κ ≡ true → n ≡ later) → (fresh < B.nodes → fresh ≡ later) → HintRight M B hint fresh → HintRight M U hint later
  hint-becoming {hint} {fresh} {later} shut same H = record { within = H.within; is = λ i l d x y z. go i l d x y z (ℕ_discrete d n) }
    where
      go : (i : ℕ) → i < B.nodes → (d : ℕ) → d < hint i → d < B.nodes → (d ≡ later → ⊥) → Dec (d ≡ n) → can_cover M U i d ≡ false
      go i l d x y z (yes q) = rw (put-at n κ B.kind d q) (shut-so (is_open κ) refl)
        where
          shut-so : (b : Bool) → is_open κ ≡ b → (b && contains M B d (B.state i)) ≡ false
          shut-so true e = absurd (z (q ∙ shut e))
          shut-so false e = refl
      go i l d x y z (no g) = rw (put_other n κ B.kind d g) (H.is i l d x y (λ e. z (e ∙ same (subst (λ (w : ℕ). w < B.nodes) e y))))

  pub reach-becoming : {reach later : ℕ → ℕ} → (κ ≡ Kind.covered → n < later c) → ((x : ℕ) → reach x ≤ later x) → ReachRight M B reach → ReachRight M U later
  reach-becoming {reach} {later} own more R = record { is = λ i l. go i l (ℕ_discrete i n) }
    where
      go : (i : ℕ) → i < B.nodes → Dec (i ≡ n) → U.kind i ≡ Kind.covered → i < later (U.cover i)
      go i l (yes q) k = rw (put-at n c B.cover i q, q) (own (sym (put-at n κ B.kind i q) ∙ k))
      go i l (no d) k =
          let h = R.is i l (sym (put_other n κ B.kind i d) ∙ k) in
          rw (put_other n c B.cover i d) (omega (arith, more (B.cover i)))

  -- It waits no longer, or the lowest that waits is not above it.
  pub next-becoming : {next later : ℕ} → later ≤ next → (κ ≡ Kind.waiting → later ≤ n) → NextRight M B next → NextRight M U later
  next-becoming {next} {later} low waits N = record {
    is = λ i l x. put_all (λ j (k : Kind). k ≡ Kind.waiting → ⊥) n κ B.kind i (λ e k. let z = waits k in omega arith) (λ d k. N.is i l (omega arith) k);
  }

  -- Marks: only the node itself is within reach. A node that waits has no broken rule.
  pub mark-becoming : (P : Limit) (K : Kept M P.most B) (m : Move) → apply M m B ≡ U → ((i : ℕ) → (i ≡ n → ⊥) → OutOfReach M B i m) → {mark later : ℕ → ℕ} {low high low' high' : ℕ} → MarkRight M B mark low high
      → ((i : ℕ) → i < B.nodes → later i ≡ 0 → (i ≡ n → κ ≡ Kind.waiting) × ((i ≡ n → ⊥) → mark i ≡ 0)) → ((i : ℕ) → i < low' → later i ≡ 0) → ((i : ℕ) → high' ≤ i → later i ≡ 0)
      → MarkRight M U later low' high'
  mark-becoming P K m same reach {mark} {later} R step below above = record { is = λ i l z. go i l z (ℕ_discrete i n); below = below; above = above }
    where
      go : (i : ℕ) → i < B.nodes → later i ≡ 0 → Dec (i ≡ n) → repair M U i ≡ None
      go i l z (yes q) = ap (repair_as M U i) (put-at n κ B.kind i q ∙ (step i l z).0 q)
      go i l z (no d) = ap (λ (C : Building). repair M C i) (sym same) ∙ out-of-reach M P B K i l m (reach i d) ∙ R.is i l ((step i l z).1 d)

-- ---- where no rule is broken
module _ (M : Model) (B : Building) (F : Mended M B) where
  pub all_settled : (fresh : ℕ) → Settled M B fresh
  all_settled fresh = record {
    is = λ i l d k.
        let w = onward-none (expanded_wants M B i) (λ v. track i v) (ap (repair_as M B i) (sym k) ∙ F i l) in
        let a = orelse-none (guards_want M B i) _ w in
        (a.0, (orelse-none (truth_wants M B i M.target) _ a.1).0);
  }

-- ---- node n, which waits, is expanded
module _ (M : Model) (P : Limit) (B : Building) (K : Kept M P.most B) (n : ℕ) (there : n < B.nodes) (waits : B.kind n ≡ Kind.waiting) where
  abbrev E : Building
  E = expanding M n B

  abbrev born : ℕ → State
  born j = get_or (offspring M (B.state n) M.commands) j []

  set-old : (i : ℕ) → i < B.nodes → E.tracked i ≡ B.tracked i
  set-old i l = grown-old B.nodes B.tracked (λ j. start_set M) i l

  own-state : (i : ℕ) → i < B.nodes → E.state i ≡ B.state i
  own-state i l = grown-old B.nodes B.state born i l

  -- An expanded node was so before, or is n.
  old-or-new : (i : ℕ) → E.kind i ≡ Kind.expanded → (i ≡ n) ⊎ ((i < B.nodes) × (i ≡ n → ⊥) × (B.kind i ≡ Kind.expanded))
  old-or-new i k = go (dec_lt i B.nodes) (ℕ_discrete i n)
    where
      go : Dec (i < B.nodes) → Dec (i ≡ n) → (i ≡ n) ⊎ ((i < B.nodes) × (i ≡ n → ⊥) × (B.kind i ≡ Kind.expanded))
      go d (yes q) = inl q
      go (yes l) (no d) = inr (l, d, sym (grown-old B.nodes (put n Kind.expanded B.kind) (λ j. Kind.waiting) i l ∙ put_other n Kind.expanded B.kind i d) ∙ k)
      go (no g) (no d) = absurd (false≢true (sym (ap is_waiting k) ∙ ap is_waiting (grown-new B.nodes (put n Kind.expanded B.kind) (λ j. Kind.waiting) i (omega arith))))

  numbers-old : (i e : ℕ) → i < B.nodes → number_wants M E i e ≡ number_wants M B i e
  unfolding number_wants
  numbers-old i e l = rw (set-old i l, own-state i l) refl

  truths-old : (i e : ℕ) → i < B.nodes → truth_wants M E i e ≡ truth_wants M B i e
  unfolding truth_wants
  truths-old i e l = rw (set-old i l, own-state i l) refl

  guards-old : (i : ℕ) → i < B.nodes → guards_want M E i ≡ guards_want M B i
  unfolding guards_want truth_wants
  guards-old i l = rw (set-old i l, own-state i l) refl

  child-old : (i : ℕ) → (i ≡ n → ⊥) → E.child i ≡ B.child i
  child-old i d = put_other n B.nodes B.child i d

  child-same : (i : ℕ) → i < B.nodes → (i ≡ n → ⊥) → (c b : ℕ) → child_by M E i c b ≡ child_by M B i c b
  child-same i l d c b = rw (child-old i d, own-state i l) refl

  -- New nodes have nothing read.
  module _ {read later : ℕ → ℕ} (old : (i : ℕ) → i < B.nodes → later i ≡ read i) (new : (j : ℕ) → j < births M (B.state n) → later (B.nodes + j) ≡ 0) (R : ReadRight M B read) where
    abbrev Reads : ℕ → ℕ → ℕ → ℕ → Type 0
    Reads i c b v = has_bit (later (child_by M E i c b)) v ≡ true → number_wants M E i (M.assigned (first_record M c + b) v) ≡ None

    read-old : (i : ℕ) → i < B.nodes → (i ≡ n → ⊥) → B.kind i ≡ Kind.expanded → (c : ℕ) → c < M.commands → enabled M (B.state i) c ≡ true → (b : ℕ) → b < M.branches c → (v : ℕ) → Reads i c b v
    read-old i l d k c h e b q v x =
        let y : child_by M B i c b < B.nodes = omega (arith, before-within M (B.state i) M.commands c h e, (K.parents i l k).there) in
        numbers-old i (M.assigned (first_record M c + b) v) l
        ∙ R.is i l k c h e b q v (sym (ap (λ (z : ℕ). has_bit z v) (ap later (child-same i l d c b) ∙ old (child_by M B i c b) y)) ∙ x)

    read-new : (i : ℕ) → i ≡ n → (c : ℕ) → c < M.commands → enabled M (B.state n) c ≡ true → (b : ℕ) → b < M.branches c → (v : ℕ) → Reads i c b v
    read-new i q c h e b g v x =
        let s : E.state i ≡ B.state n = ap E.state q ∙ own-state n there in
        let a : E.child i ≡ B.nodes = put-at n B.nodes B.child i q in
        let z : child_by M E i c b ≡ B.nodes + (before M (B.state n) c + b) = rw (a, s) (omega arith) in
        let w : later (child_by M E i c b) ≡ 0 = ap later z ∙ new (before M (B.state n) c + b) (omega (arith, before-within M (B.state n) M.commands c h e)) in
        absurd (false≢true (sym (no-bit 0 0 v (omega arith) (omega arith)) ∙ ap (λ (y : ℕ). has_bit y v) (sym w) ∙ x))

    pub read-expanding : ReadRight M E later
    read-expanding = record {
      is = λ i l k c h e b q v x. ⊎_elim
          (λ s. read-new i s c h (subst (λ (t : State). enabled M t c ≡ true) (ap E.state s ∙ own-state n there) e) b q v x)
          (λ s. read-old i s.0 s.1 s.2 c h (subst (λ (t : State). enabled M t c ≡ true) (own-state i s.0) e) b q v x)
          (old-or-new i k);
    }

  pub settled-expanding : Mended M B → Settled M E n
  settled-expanding F = record {
    is = λ i l d k. ⊎_elim (λ s. absurd (d s)) (λ s. let a = (all_settled M B F n).is i s.0 d s.2 in (guards-old i s.0 ∙ a.0, truths-old i M.target s.0 ∙ a.1)) (old-or-new i k);
  }

  pub parent-expanding : {parent later : ℕ → ℕ} → ((i : ℕ) → i < B.nodes → later i ≡ parent i) → ((j : ℕ) → j < births M (B.state n) → later (B.nodes + j) ≡ n) → ParentRight M B parent → ParentRight M E later
  parent-expanding {parent} {later} old new R = record {
    is = λ i l k j h. ⊎_elim
        (λ s. ap later (ap (λ (x : ℕ). x + j) (put-at n B.nodes B.child i s)) ∙ new j (subst (λ (t : State). j < births M t) (ap E.state s ∙ own-state n there) h) ∙ sym s)
        (λ s.
        let g : j < births M (B.state i) = subst (λ (t : State). j < births M t) (own-state i s.0) h in
        ap later (ap (λ (x : ℕ). x + j) (child-old i s.1)) ∙ old (B.child i + j) (omega (arith, (K.parents i s.0 s.2).there)) ∙ R.is i s.0 s.2 j g)
        (old-or-new i k);
  }

  -- New nodes have no hint.
  pub hint-expanding : {hint later : ℕ → ℕ} {fresh : ℕ} → (fresh < B.nodes → ⊥) → ((i : ℕ) → i < B.nodes → later i ≡ hint i) → ((j : ℕ) → j < births M (B.state n) → later (B.nodes + j) ≡ 0) → HintRight M B hint fresh → HintRight M E later n
  hint-expanding {hint} {later} {fresh} none-fresh old new H = record { within = λ i l. low i l (dec_lt i B.nodes); is = λ i l c x y d. go i l c x y d (dec_lt i B.nodes) (dec_lt c B.nodes) }
    where
      low : (i : ℕ) → i < E.nodes → Dec (i < B.nodes) → later i ≤ E.nodes
      low i l (yes p) = omega (arith, old i p, H.within i p)
      low i l (no g) =
          let j : ℕ = i - B.nodes in
          let e : i ≡ B.nodes + j = omega arith in
          let z : later i ≡ 0 = ap later e ∙ new j (omega arith) in
          omega arith

      go : (i : ℕ) → i < E.nodes → (c : ℕ) → c < later i → c < E.nodes → (c ≡ n → ⊥) → Dec (i < B.nodes) → Dec (c < B.nodes) → can_cover M E i c ≡ false
      go i l c x y d (yes p) (yes q) =
          rw (grown-old B.nodes (put n Kind.expanded B.kind) (λ j. Kind.waiting) c q ∙ put_other n Kind.expanded B.kind c d, set-old c q, own-state c q, own-state i p)
          (H.is i p c (rw (sym (old i p)) x) q (λ e. none-fresh (rw (sym e) q)))
      go i l c x y d (yes p) (no g) = and_left (is_open (E.kind c)) _ (ap is_open (grown-new B.nodes (put n Kind.expanded B.kind) (λ j. Kind.waiting) c (omega arith)))
      go i l c x y d (no g) q =
          let j : ℕ = i - B.nodes in
          let e : i ≡ B.nodes + j = omega arith in
          let z : later i ≡ 0 = ap later e ∙ new j (omega arith) in
          absurd (omega arith)

  pub reach-expanding : {reach : ℕ → ℕ} → ReachRight M B reach → ReachRight M E reach
  reach-expanding {reach} R = record { is = λ i l k. go i k (dec_lt i B.nodes) (ℕ_discrete i n) }
    where
      go : (i : ℕ) → E.kind i ≡ Kind.covered → Dec (i < B.nodes) → Dec (i ≡ n) → i < reach (E.cover i)
      go i k (yes l) (yes q) = absurd (false≢true (sym (ap is_open k) ∙ ap is_open (grown-old B.nodes (put n Kind.expanded B.kind) (λ j. Kind.waiting) i l ∙ put-at n Kind.expanded B.kind i q)))
      go i k (yes l) (no d) =
          rw (grown-old B.nodes B.cover (λ j. 0) i l)
          (R.is i l (sym (grown-old B.nodes (put n Kind.expanded B.kind) (λ j. Kind.waiting) i l ∙ put_other n Kind.expanded B.kind i d) ∙ k))
      go i k (no g) d = absurd (false≢true (sym (ap is_waiting k) ∙ ap is_waiting (grown-new B.nodes (put n Kind.expanded B.kind) (λ j. Kind.waiting) i (omega arith))))

  pub next-expanding : {next : ℕ} → next ≤ n → NextRight M B next → NextRight M E next
  next-expanding {next} low N = record {
    is = λ i l x k.
        let q : i < B.nodes = omega arith in
        N.is i q x (sym (grown-old B.nodes (put n Kind.expanded B.kind) (λ j. Kind.waiting) i q ∙ put_other n Kind.expanded B.kind i (λ e. omega arith)) ∙ k);
  }

  -- New nodes wait, and have no broken rule.
  pub mark-expanding : {mark later : ℕ → ℕ} {low high low' high' : ℕ} → MarkRight M B mark low high → ((i : ℕ) → i < B.nodes → later i ≡ 0 → (i ≡ n → ⊥) × (mark i ≡ 0))
      → ((i : ℕ) → i < low' → later i ≡ 0) → ((i : ℕ) → high' ≤ i → later i ≡ 0) → MarkRight M E later low' high'
  mark-expanding {mark} {later} R step below above = record { is = λ i l z. go i z (dec_lt i B.nodes); below = below; above = above }
    where
      go : (i : ℕ) → later i ≡ 0 → Dec (i < B.nodes) → repair M E i ≡ None
      go i z (yes l) = out-of-reach M P B K i l (expand n) (step i l z).0 ∙ R.is i l (step i l z).1
      go i z (no g) = new-wants-none M B n i (omega arith)

-- ---- marks where a label grows: whoever is left unmarked is out of its reach, and was unmarked
pub mark-growing : (M : Model) (P : Limit) (B : Building) (K : Kept M P.most B) (m : Move) (n : ℕ) → ((i : ℕ) → Clear M B n i → OutOfReach M B i m) → (apply M m B).nodes ≡ B.nodes
    → {mark later : ℕ → ℕ} {low high low' high' : ℕ} → MarkRight M B mark low high → ((i : ℕ) → i < B.nodes → later i ≡ 0 → Clear M B n i × (mark i ≡ 0))
    → ((i : ℕ) → i < low' → later i ≡ 0) → ((i : ℕ) → high' ≤ i → later i ≡ 0) → MarkRight M (apply M m B) later low' high'
mark-growing M P B K m n reach same R step below above = record {
  is = λ i l z.
      let q : i < B.nodes = rw (sym same) l in
      out-of-reach M P B K i q m (reach i (step i q z).0) ∙ R.is i q (step i q z).1;
  below = below;
  above = above;
}

-- Node i is clear of n where it is not n, nor its parent, nor covered by it.
pub clear-by : (M : Model) (B : Building) (n i : ℕ) {parent : ℕ → ℕ} → ParentRight M B parent → i < B.nodes → (i ≡ n → ⊥) → (i ≡ parent n → ⊥) → (B.kind i ≡ Kind.covered → B.cover i ≡ n → ⊥) → Clear M B n i
clear-by M B n i {parent} R l other above under = record { other = other; no-parent = λ k. go k (dec_lt n (B.child i)) (dec_lt n (B.child i + births M (B.state i))); no_cover = under }
  where
    go : B.kind i ≡ Kind.expanded → Dec (n < B.child i) → Dec (n < B.child i + births M (B.state i)) → (n < B.child i) ⊎ (B.child i + births M (B.state i) ≤ n)
    go k (yes x) d = inl x
    go k (no g) (no h) = inr (omega arith)
    go k (no g) (yes x) =
        let j : ℕ = n - B.child i in
        let e : n ≡ B.child i + j = omega arith in
        absurd (above (sym (ap parent e ∙ R.is i l k j (omega arith))))

-- ---- hints: the node opened last is taken into account; and a node that was covered by the lowest
module _ (M : Model) (B : Building) where
  pub hint-lowered : {hint later : ℕ → ℕ} (fresh : ℕ) → ((i : ℕ) → i < B.nodes → (later i ≤ hint i) × (contains M B fresh (B.state i) ≡ true → later i ≤ fresh)) → {none-fresh : ℕ} → HintRight M B hint fresh → HintRight M B later none-fresh
  hint-lowered {hint} {later} fresh low H = record {
    within = λ i l. omega (arith, (low i l).0, H.within i l);
    is = λ i l c x y d. go i l c x y (ℕ_discrete c fresh) (contains M B fresh (B.state i)) refl;
  }
    where
      go : (i : ℕ) → i < B.nodes → (c : ℕ) → c < later i → c < B.nodes → Dec (c ≡ fresh) → (b : Bool) → contains M B fresh (B.state i) ≡ b → can_cover M B i c ≡ false
      go i l c x y (no d) b e = H.is i l c (omega (arith, (low i l).0)) y d
      go i l c x y (yes q) true e = let z = (low i l).1 e in absurd (omega arith)
      go i l c x y (yes q) false e = rw q (and-false (is_open (B.kind fresh)) _ e)

  pub hint-put : {hint : ℕ → ℕ} {fresh : ℕ} (n c : ℕ) → c ≤ B.nodes → ((d : ℕ) → d < c → can_cover M B n d ≡ false) → HintRight M B hint fresh → HintRight M B (put n c hint) fresh
  hint-put {hint} {fresh} n c few none-lower H = record {
    within = λ i l. put_all (λ j (h : ℕ). h ≤ B.nodes) n c hint i (λ q. few) (λ d. H.within i l);
    is = λ i l d x y z. go i l d x y z (ℕ_discrete i n);
  }
    where
      go : (i : ℕ) → i < B.nodes → (d : ℕ) → d < put n c hint i → d < B.nodes → (d ≡ fresh → ⊥) → Dec (i ≡ n) → can_cover M B i d ≡ false
      go i l d x y z (yes q) = rw q (none-lower d (rw (put-at n c hint i q) at x))
      go i l d x y z (no g) = H.is i l d (rw (put_other n c hint i g) at x) y z
