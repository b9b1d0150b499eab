-- The measure falls at every move that may be made.
-- Assumes nothing.
use Prim.Native.Nat.{ℕ, zero, suc, ◌+◌, ◌*◌, ◌^◌, ◌<◌, ◌≤◌, zero-le}
use mathlib.Core.Path.{◌≡◌, refl, sym, ap, ◌∙◌}
use mathlib.Core.Logic.{◌⊎◌, inl, inr}
use mathlib.Core.Bool.{Bool, true, false, false≢true}
use mathlib.Core.List.{[]}
use native.Mathlib.Nat.{eq-or-lt_of_le, le_of_suc-le-suc, not-suc-le-zero, le_step, le_refl, mul-le-mul_left}
use native.Mathlib.Decide.{dec_lt, ℕ_discrete}
use native.Mathlib.Omega.{arith}
use borrow.Author.Tests.{lt-ltb, le-ltb}
use lib.Dec.{ltb}
use lib.ListN.{get_or}
use Rattle.mdp.specs.Sums.{sum}
use Rattle.mdp.specs.Kinds.{Kind}
use Rattle.folder.specs.Pick.{pick}
use Rattle.mdp.proofs.SumLaws.{sum-few}
use Rattle.expressions.specs.Meaning.{State}
use Rattle.expressions.specs.Reading.{has_bit}
use Rattle.expressions.specs.Mentions.{union}
use Rattle.expressions.proofs.Bits.{own-bit, in_left, in_right}
use Rattle.model.specs.Model.{Model}
use Rattle.building.specs.First.{put}
use Rattle.building.specs.Building.{Building, start_set, offspring, contains}
use Rattle.building.specs.Moves.{Move, Limit, tracking, becoming, expanding, apply}
use Rattle.building.specs.Kept.{Kept, Apt, may-track, may-adopt, may-drop, may-cover_by, may-reach, may-expand}
use Rattle.building.specs.Measure.{lacks, weight, due, untracked, measure}
use Rattle.building.proofs.FirstLaws.{put_same, put_other, grown-old}

-- ---- sums
pub sum-le : (n : ℕ) (f g : ℕ → ℕ) → ((i : ℕ) → i < n → f i ≤ g i) → sum n (λ i _. f i) ≤ sum n (λ i _. g i)
sum-le zero f g h = zero-le
sum-le (suc n) f g h = omega (arith, sum-le n f g (λ i l. h i (le_step l)), h n (le_refl (suc n)))

pub sum_lt : (n : ℕ) (f g : ℕ → ℕ) → ((i : ℕ) → i < n → f i ≤ g i) → (k : ℕ) → k < n → f k < g k → sum n (λ i _. f i) < sum n (λ i _. g i)
sum_lt zero f g h k l s = absurd (not-suc-le-zero l)
sum_lt (suc n) f g h k l s = go (λ m. sum_lt n f g (λ i p. h i (le_step p)) k m s) (eq-or-lt_of_le (le_of_suc-le-suc l))
  where
    go : (k < n → sum n (λ i _. f i) < sum n (λ i _. g i)) → (k ≡ n) ⊎ (k < n) → sum n (λ i _. f i) + f n < sum n (λ i _. g i) + g n
    go below (inl e) =
        let t : f n < g n = rw (sym e) s in
        omega (arith, sum-le n f g (λ i p. h i (le_step p)))
    go below (inr m) = omega (arith, below m, h n (le_refl (suc n)))

-- ---- sets
one-le : (a b : Bool) → (a ≡ true → b ≡ true) → pick b 0 1 ≤ pick a 0 1
one-le true true h = zero-le
one-le true false h = absurd (false≢true (h refl))
one-le false true h = zero-le
one-le false false h = le_refl 1

one-most : (b : Bool) → pick b 0 1 ≤ 1
one-most true = zero-le
one-most false = le_refl 1

module _ (M : Model) where
  lacks-most : (t : ℕ) → lacks M t ≤ M.variables
  unfolding lacks
  lacks-most t = omega (arith, sum-few 1 M.variables (λ v. pick (has_bit t v) 0 1) (λ v l. one-most (has_bit t v)))

  -- A larger set lacks less.
  lacks-lt : (t u : ℕ) → ((v : ℕ) → has_bit t v ≡ true → has_bit u v ≡ true) → (v : ℕ) → v < M.variables → has_bit t v ≡ false → has_bit u v ≡ true → lacks M u < lacks M t
  unfolding lacks
  lacks-lt t u h v l p q = sum_lt M.variables (λ w. pick (has_bit u w) 0 1) (λ w. pick (has_bit t w) 0 1) (λ w k. one-le (has_bit t w) (has_bit u w) (h w)) v l (rw (p, q) (le_refl 1))

-- ---- weights
weight-most : (κ : Kind) (b : Bool) → weight κ b ≤ 3
weight-most Kind.waiting b = omega arith
weight-most Kind.expanded b = omega arith
weight-most Kind.covered true = omega arith
weight-most Kind.covered false = omega arith
weight-most Kind.target b = omega arith

weight-same : (κ : Kind) (a b : Bool) → (κ ≡ Kind.covered → a ≡ b) → weight κ a ≡ weight κ b
weight-same Kind.waiting a b h = refl
weight-same Kind.expanded a b h = refl
weight-same Kind.covered a b h = ap (weight Kind.covered) (h refl)
weight-same Kind.target a b h = refl

pick-most : (b : Bool) (x y c : ℕ) → x ≤ c → y ≤ c → pick b x y ≤ c
pick-most true x y c h k = h
pick-most false x y c h k = k

module _ (M : Model) (B : Building) where
  due-most : (i : ℕ) → due M B i ≤ 3
  unfolding due
  due-most i =
      let b : Bool = contains M B (B.cover i) (B.state i) in
      pick-most (ltb i B.nodes) (weight (B.kind i) b) 3 3 (weight-most (B.kind i) b) (le_refl 3)

  due-here : (i : ℕ) → i < B.nodes → due M B i ≡ weight (B.kind i) (contains M B (B.cover i) (B.state i))
  unfolding due
  due-here i l = rw (lt-ltb i B.nodes l)

  due-past : (i : ℕ) → B.nodes ≤ i → due M B i ≡ 3
  unfolding due
  due-past i l = rw (le-ltb i B.nodes l)

  untracked-here : (i : ℕ) → i < B.nodes → untracked M B i ≡ lacks M (B.tracked i)
  unfolding untracked
  untracked-here i l = rw (lt-ltb i B.nodes l)

  untracked-past : (i : ℕ) → B.nodes ≤ i → untracked M B i ≡ M.variables
  unfolding untracked
  untracked-past i l = rw (le-ltb i B.nodes l)

-- ---- the two ways to fall
outweighs : (m u x w y : ℕ) → x < u → y ≤ 3 * m → (3 * m + 1) * x + y < (3 * m + 1) * u + w
outweighs m u x w y l k = omega (arith, mul-le-mul_left (3 * m + 1) l)

module _ (M : Model) (P : Limit) (B C : Building) where
  falls-tracked : sum P.most (λ i _. untracked M C i) < sum P.most (λ i _. untracked M B i) → measure M P C < measure M P B
  unfolding measure
  falls-tracked l = outweighs P.most _ _ _ _ l (sum-few 3 P.most (due M C) (λ i _. due-most M C i))

  falls-due : sum P.most (λ i _. untracked M C i) ≤ sum P.most (λ i _. untracked M B i) → sum P.most (λ i _. due M C i) < sum P.most (λ i _. due M B i)
      → measure M P C < measure M P B
  unfolding measure
  falls-due h k = omega (arith, mul-le-mul_left (3 * P.most + 1) h)

-- ---- a label grows
module _ (M : Model) (P : Limit) (B : Building) (K : Kept M P.most B) (n : ℕ) (l : n < B.nodes) where
  module _ (t : ℕ) (more : (v : ℕ) → has_bit (B.tracked n) v ≡ true → has_bit t v ≡ true) (v : ℕ) (k : v < M.variables) (p : has_bit (B.tracked n) v ≡ false) (q : has_bit t v ≡ true) where
    abbrev T : Building
    T = tracking n t B

    fewer : lacks M t < lacks M (B.tracked n)
    fewer = lacks-lt M (B.tracked n) t more v k p q

    untracked-fewer : untracked M T n < untracked M B n
    untracked-fewer = rw (untracked-here M T n l, untracked-here M B n l, put_same n t B.tracked) fewer

    untracked-other : (i : ℕ) → (i ≡ n → ⊥) → untracked M T i ≡ untracked M B i
    unfolding untracked
    untracked-other i d = rw (put_other n t B.tracked i d)

    untracked-le : (i : ℕ) → untracked M T i ≤ untracked M B i
    untracked-le i = go (ℕ_discrete i n)
      where
        go : Dec (i ≡ n) → untracked M T i ≤ untracked M B i
        go (yes e) = rw e (omega (arith, untracked-fewer))
        go (no d) = omega (arith, untracked-other i d)

    falls-tracking : measure M P T < measure M P B
    falls-tracking = falls-tracked M P B T (sum_lt P.most (untracked M T) (untracked M B) (λ i _. untracked-le i) n (omega (arith, K.few)) untracked-fewer)

  -- ---- a kind changes
  module _ (κ : Kind) (c : ℕ) (less : weight κ (contains M B c (B.state n)) < weight (B.kind n) (contains M B (B.cover n) (B.state n))) where
    abbrev U : Building
    U = becoming n κ c B

    due-fewer : due M U n < due M B n
    due-fewer = rw (due-here M U n l, due-here M B n l, put_same n κ B.kind, put_same n c B.cover) less

    due-other : (i : ℕ) → (i ≡ n → ⊥) → due M U i ≡ due M B i
    unfolding due
    due-other i d = rw (put_other n κ B.kind i d, put_other n c B.cover i d)

    due-le : (i : ℕ) → due M U i ≤ due M B i
    due-le i = go (ℕ_discrete i n)
      where
        go : Dec (i ≡ n) → due M U i ≤ due M B i
        go (yes e) = rw e (omega (arith, due-fewer))
        go (no d) = omega (arith, due-other i d)

    untracked-same : (i : ℕ) → untracked M U i ≤ untracked M B i
    unfolding untracked
    untracked-same i = le_refl _

    falls-becoming : measure M P U < measure M P B
    falls-becoming = falls-due M P B U (sum-le P.most (untracked M U) (untracked M B) (λ i _. untracked-same i)) (sum_lt P.most (due M U) (due M B) (λ i _. due-le i) n (omega (arith, K.few)) due-fewer)

  -- ---- an expansion
  module _ (waits : B.kind n ≡ Kind.waiting) where
    abbrev E : Building
    E = expanding M n B

    abbrev born : ℕ → State
    born j = get_or (offspring M (B.state n) M.commands) j []

    same-contains : (i c : ℕ) → i < B.nodes → c < B.nodes → contains M E c (E.state i) ≡ contains M B c (B.state i)
    same-contains i c p q =
        rw (grown-old B.nodes B.tracked (λ j. start_set M) c q, grown-old B.nodes B.state born c q, grown-old B.nodes B.state born i p)

    kind-other : (i : ℕ) → i < B.nodes → (i ≡ n → ⊥) → E.kind i ≡ B.kind i
    kind-other i p d = grown-old B.nodes (put n Kind.expanded B.kind) (λ j. Kind.waiting) i p ∙ put_other n Kind.expanded B.kind i d

    due-old : (i : ℕ) → i < B.nodes → (i ≡ n → ⊥) → due M E i ≡ due M B i
    due-old i p d =
        due-here M E i (omega arith)
        ∙ ap (λ (κ : Kind). weight κ (contains M E (E.cover i) (E.state i))) (kind-other i p d)
        ∙ weight-same (B.kind i) (contains M E (E.cover i) (E.state i)) (contains M B (B.cover i) (B.state i))
        (λ e. ap (λ (c : ℕ). contains M E c (E.state i)) (grown-old B.nodes B.cover (λ j. 0) i p) ∙ same-contains i (B.cover i) p (K.covers i p e).there)
        ∙ sym (due-here M B i p)

    due-itself : due M E n < due M B n
    due-itself =
        let e : E.kind n ≡ Kind.expanded = grown-old B.nodes (put n Kind.expanded B.kind) (λ j. Kind.waiting) n l ∙ put_same n Kind.expanded B.kind in
        let x : due M E n ≡ 0 = due-here M E n (omega arith) ∙ ap (λ (κ : Kind). weight κ (contains M E (E.cover n) (E.state n))) e in
        let y : due M B n ≡ 2 = due-here M B n l ∙ ap (λ (κ : Kind). weight κ (contains M B (B.cover n) (B.state n))) waits in
        omega arith

    due-grown : (i : ℕ) → due M E i ≤ due M B i
    due-grown i = go (dec_lt i B.nodes) (ℕ_discrete i n)
      where
        go : Dec (i < B.nodes) → Dec (i ≡ n) → due M E i ≤ due M B i
        go (yes p) (yes e) = rw e (omega (arith, due-itself))
        go (yes p) (no d) = omega (arith, due-old i p d)
        go (no g) d = omega (arith, due-past M B i (omega arith), due-most M E i)

    untracked-grown : (i : ℕ) → untracked M E i ≤ untracked M B i
    untracked-grown i = go (dec_lt i B.nodes) (dec_lt i E.nodes)
      where
        go : Dec (i < B.nodes) → Dec (i < E.nodes) → untracked M E i ≤ untracked M B i
        go (yes p) e = rw (untracked-here M E i (omega arith), untracked-here M B i p, grown-old B.nodes B.tracked (λ j. start_set M) i p) (le_refl _)
        go (no g) (yes q) = rw (untracked-here M E i q, untracked-past M B i (omega arith)) (lacks-most M (E.tracked i))
        go (no g) (no q) = rw (untracked-past M E i (omega arith), untracked-past M B i (omega arith)) (le_refl _)

    falls-expanding : measure M P E < measure M P B
    falls-expanding = falls-due M P B E (sum-le P.most (untracked M E) (untracked M B) (λ i _. untracked-grown i)) (sum_lt P.most (due M E) (due M B) (λ i _. due-grown i) n (omega (arith, K.few)) due-itself)

-- ---- each move
module _ (M : Model) (P : Limit) where
  pub falls : (B : Building) → Kept M P.most B → (m : Move) → Apt M P B m → measure M P (apply M m B) < measure M P B
  falls B K m (may-track {n = n} {v = v} l k u) =
      falls-tracking M P B K n l (union (B.tracked n) (2 ^ v)) (in_left (B.tracked n) (2 ^ v)) v k u (in_right (B.tracked n) (2 ^ v) v (own-bit v))
  falls B K m (may-adopt {n = n} v l c k t u) =
      falls-tracking M P B K n l (union (B.tracked n) (B.tracked (B.cover n))) (in_left (B.tracked n) (B.tracked (B.cover n))) v k u (in_right (B.tracked n) (B.tracked (B.cover n)) v t)
  falls B K m (may-drop {n = n} l c x) = falls-becoming M P B K n l Kind.waiting 0 (rw (c, x) (omega arith))
  falls B K m (may-cover_by {n = n} {c = c} l w h o x) = falls-becoming M P B K n l Kind.covered c (rw (w, x) (omega arith))
  falls B K m (may-reach {n = n} l w t) = falls-becoming M P B K n l Kind.target 0 (rw w (omega arith))
  falls B K m (may-expand {n = n} l w t room fits) = falls-expanding M P B K n l w
