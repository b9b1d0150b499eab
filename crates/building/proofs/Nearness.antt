-- A move leaves the repairs of the nodes out of its reach as they were.
-- Assumes nothing.
use Rattle.std.specs.Prelude.{Option, None, Some}
use Prim.Native.Nat.{ℕ, zero, suc, ◌+◌, ◌^◌, ◌<◌, ◌≤◌}
use mathlib.Core.Path.{◌≡◌, refl, ap, ◌∙◌}
use mathlib.Core.Logic.{◌⊎◌, inl, inr}
use mathlib.Core.Bool.{Bool, true, false}
use mathlib.Core.List.{[]}
use native.Mathlib.Nat.{le_step, le_refl}
use native.Mathlib.Omega.{arith}
use lib.ListN.{get_or}
use Rattle.mdp.specs.Kinds.{Kind}
use Rattle.folder.specs.Pick.{pick, implies}
use Rattle.folder.specs.Scan.{all}
use Rattle.expressions.specs.Meaning.{State}
use Rattle.expressions.specs.Reading.{has_bit}
use Rattle.expressions.specs.Mentions.{union}
use Rattle.model.specs.Model.{Model, first_record}
use Rattle.building.specs.First.{◌orelse◌, given, onward, first, put}
use Rattle.building.specs.Building.{Building, start_set, enabled, births, offspring, child_by}
use Rattle.building.specs.Moves.{Move, track, adopt, drop, cover_by, reach, expand, Limit, tracking, becoming, expanding, apply, truth_wants, number_wants, guards_want, result_wants, results_want, expanded_wants, covered, adopted, repair_as, repair}
use Rattle.building.specs.Kept.{Kept}
use Rattle.building.specs.Near.{Near, Clear, OutOfReach}
use Rattle.building.proofs.FirstLaws.{put_other, grown-old, grown-new}
use Rattle.building.proofs.OffspringLaws.{before-within}

module _ {A : Type 0} where
  first-same : (n : ℕ) (f g : ℕ → Option A) → ((i : ℕ) → i < n → f i ≡ g i) → first n f ≡ first n g
  unfolding first
  first-same zero f g h = refl
  first-same (suc n) f g h = λ i. first-same n f g (λ k l. h k (le_step l)) i orelse h n (le_refl (suc n)) i

  given-same : (b : Bool) {o p : Option A} → (b ≡ true → o ≡ p) → given b o ≡ given b p
  unfolding given
  given-same true h = h refl
  given-same false h = refl

module _ (M : Model) (B C : Building) (i : ℕ) (N : Near M B C i) where
  truth-same : (e : ℕ) → truth_wants M C i e ≡ truth_wants M B i e
  unfolding truth_wants
  truth-same e = rw (N.tracked, N.state)

  number_same : (e : ℕ) → number_wants M C i e ≡ number_wants M B i e
  unfolding number_wants
  number_same e = rw (N.tracked, N.state)

  guards-same : guards_want M C i ≡ guards_want M B i
  unfolding guards_want
  guards-same = first-same M.commands _ _ (λ c _. truth-same (M.guard c))

  module _ (k : B.kind i ≡ Kind.expanded) where
    same-child : (c b : ℕ) → child_by M C i c b ≡ child_by M B i c b
    same-child c b = rw (N.child k, N.state)

    result-same : (c : ℕ) → c < M.commands → enabled M (B.state i) c ≡ true → (b : ℕ) → b < M.branches c → result_wants M C i c b ≡ result_wants M B i c b
    unfolding result_wants
    result-same c l e b h = first-same M.variables _ _ (λ v _.
        ap (λ (t : ℕ). given (has_bit t v) (number_wants M C i (M.assigned (first_record M c + b) v))) (ap C.tracked (same-child c b) ∙ N.children k c l e b h)
        ∙ ap (given (has_bit (B.tracked (child_by M B i c b)) v)) (number_same (M.assigned (first_record M c + b) v)))

    results_same : results_want M C i ≡ results_want M B i
    unfolding results_want
    results_same = first-same M.commands _ _ (λ c l.
        ap (λ (s : State). given (enabled M s c) (first (M.branches c) (result_wants M C i c))) N.state
        ∙ given-same (enabled M (B.state i) c) (λ e. first-same (M.branches c) (result_wants M C i c) (result_wants M B i c) (λ b h. result-same c l e b h)))

    expanded-same : expanded_wants M C i ≡ expanded_wants M B i
    expanded-same = λ j. guards-same j orelse truth-same M.target j orelse results_same j

  module _ (k : B.kind i ≡ Kind.covered) where
    covered_same : covered M C i ≡ covered M B i
    covered_same = rw (N.cover k, N.cover-tracked k, N.cover-state k, N.state)

    adopted-same : adopted M C i ≡ adopted M B i
    unfolding adopted
    adopted-same = λ j. all (λ v. implies (has_bit ((ap C.tracked (N.cover k) ∙ N.cover-tracked k) j) v) (has_bit (N.tracked j) v)) M.variables

  repair-as-same : (κ : Kind) → B.kind i ≡ κ → repair_as M C i κ ≡ repair_as M B i κ
  repair-as-same Kind.waiting k = refl
  repair-as-same Kind.expanded k = ap (λ (o : Option ℕ). onward o (λ v. Some (track i v))) (expanded-same k)
  repair-as-same Kind.covered k = λ j. pick (covered_same k j) (pick (adopted-same k j) None (Some (adopt i))) (Some (drop i))
  repair-as-same Kind.target k = ap (λ (o : Option ℕ). onward o (λ v. Some (track i v))) (truth-same M.target)

  pub repair-same : repair M C i ≡ repair M B i
  repair-same = ap (repair_as M C i) N.kind ∙ repair-as-same (B.kind i) refl

-- ---- what each move leaves alone
module _ (M : Model) (P : Limit) (B : Building) (K : Kept M P.most B) (i : ℕ) (l : i < B.nodes) where
  child-there : B.kind i ≡ Kind.expanded → (c : ℕ) → c < M.commands → enabled M (B.state i) c ≡ true → (b : ℕ) → b < M.branches c → child_by M B i c b < B.child i + births M (B.state i)
  child-there k c h e b q = omega (arith, before-within M (B.state i) M.commands c h e)

  near-tracking : (n : ℕ) (t : ℕ) → Clear M B n i → Near M B (tracking n t B) i
  near-tracking n t x = record {
    kind = refl;
    tracked = put_other n t B.tracked i x.other;
    state = refl;
    child = λ k. refl;
    children = λ k c h e b q. put_other n t B.tracked (child_by M B i c b) (λ s. apart k c h e b q s (x.no-parent k));
    cover = λ k. refl;
    cover-tracked = λ k. put_other n t B.tracked (B.cover i) (x.no_cover k);
    cover-state = λ k. refl;
  }
    where
      apart : B.kind i ≡ Kind.expanded → (c : ℕ) → c < M.commands → enabled M (B.state i) c ≡ true → (b : ℕ) → b < M.branches c → child_by M B i c b ≡ n
          → (n < B.child i) ⊎ (B.child i + births M (B.state i) ≤ n) → ⊥
      apart k c h e b q s (inl m) = omega arith
      apart k c h e b q s (inr m) = omega (arith, child-there k c h e b q)

  near-becoming : (n : ℕ) (κ : Kind) (c : ℕ) → (i ≡ n → ⊥) → Near M B (becoming n κ c B) i
  near-becoming n κ c d = record {
    kind = put_other n κ B.kind i d;
    tracked = refl;
    state = refl;
    child = λ k. refl;
    children = λ k c h e b q. refl;
    cover = λ k. put_other n c B.cover i d;
    cover-tracked = λ k. refl;
    cover-state = λ k. refl;
  }

  near-expanding : (n : ℕ) → (i ≡ n → ⊥) → Near M B (expanding M n B) i
  near-expanding n d = record {
    kind = grown-old B.nodes (put n Kind.expanded B.kind) (λ j. Kind.waiting) i l ∙ put_other n Kind.expanded B.kind i d;
    tracked = grown-old B.nodes B.tracked (λ j. start_set M) i l;
    state = grown-old B.nodes B.state born i l;
    child = λ k. put_other n B.nodes B.child i d;
    children = λ k c h e b q. grown-old B.nodes B.tracked (λ j. start_set M) (child_by M B i c b) (omega (arith, child-there k c h e b q, (K.parents i l k).there));
    cover = λ k. grown-old B.nodes B.cover (λ j. 0) i l;
    cover-tracked = λ k. grown-old B.nodes B.tracked (λ j. start_set M) (B.cover i) (K.covers i l k).there;
    cover-state = λ k. grown-old B.nodes B.state born (B.cover i) (K.covers i l k).there;
  }
    where
      born : ℕ → State
      born j = get_or (offspring M (B.state n) M.commands) j []

  near : (m : Move) → OutOfReach M B i m → Near M B (apply M m B) i
  near (track n v) x = near-tracking n (union (B.tracked n) (2 ^ v)) x
  near (adopt n) x = near-tracking n (union (B.tracked n) (B.tracked (B.cover n))) x
  near (drop n) x = near-becoming n Kind.waiting 0 x
  near (cover_by n c) x = near-becoming n Kind.covered c x
  near (reach n) x = near-becoming n Kind.target 0 x
  near (expand n) x = near-expanding n x

  pub out-of-reach : (m : Move) → OutOfReach M B i m → repair M (apply M m B) i ≡ repair M B i
  out-of-reach m x = repair-same M B (apply M m B) i (near m x)

-- A node that an expansion makes wants nothing.
pub new-wants-none : (M : Model) (B : Building) (n i : ℕ) → B.nodes ≤ i → repair M (expanding M n B) i ≡ None
new-wants-none M B n i l = ap (repair_as M (expanding M n B) i) (grown-new B.nodes (put n Kind.expanded B.kind) (λ j. Kind.waiting) i l)
