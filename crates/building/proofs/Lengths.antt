-- What each move does to the length, to where edges begin, and to the waiting count.
-- Assumes nothing.
use Prim.Native.Nat.{ℕ, zero, suc, ◌+◌, ◌*◌, ◌<◌, ◌≤◌}
use mathlib.Core.Path.{◌≡◌, refl, sym, ap, ◌∙◌}
use mathlib.Core.Logic.{◌⊎◌, inl, inr}
use mathlib.Core.List.{[]}
use native.Mathlib.Nat.{eq-or-lt_of_le, le_of_suc-le-suc, not-suc-le-zero, le_step, le_refl}
use native.Mathlib.Decide.{ℕ_discrete}
use native.Mathlib.Omega.{arith}
use lib.ListN.{get_or}
use Rattle.mdp.specs.Sums.{sum}
use Rattle.mdp.specs.Kinds.{Kind}
use Rattle.mdp.proofs.SumLaws.{sum-eq, sum_more}
use Rattle.expressions.specs.Meaning.{State}
use Rattle.model.specs.Model.{Model}
use Rattle.graph.specs.Limits.{least_bytes}
use Rattle.graph.specs.Simulation.{node_size}
use Rattle.building.specs.First.{put}
use Rattle.building.specs.Building.{Building, births, offspring, if_expanded}
use Rattle.building.specs.Moves.{tracking, becoming, expanding}
use Rattle.building.specs.Length.{edges_length, edges_of, edges_before, graph_length, length_with, if_waiting, waiting_count}
use Rattle.building.proofs.FirstLaws.{put_same, put-at, put_other, grown-old, grown-new}

-- ---- sums that differ at one place, and sums that go on with one value
pub sum_one : (n : ℕ) (f g : ℕ → ℕ) (k : ℕ) → k < n → ((i : ℕ) → i < n → (i ≡ k → ⊥) → f i ≡ g i) → sum n (λ i _. f i) + g k ≡ sum n (λ i _. g i) + f k
sum_one zero f g k l h = absurd (not-suc-le-zero l)
sum_one (suc n) f g k l h = go (λ m. sum_one n f g k m (λ i p d. h i (le_step p) d)) (eq-or-lt_of_le (le_of_suc-le-suc l))
  where
    go : (k < n → sum n (λ i _. f i) + g k ≡ sum n (λ i _. g i) + f k) → (k ≡ n) ⊎ (k < n) → sum n (λ i _. f i) + f n + g k ≡ sum n (λ i _. g i) + g n + f k
    go below (inl e) =
        let s : sum n (λ i _. f i) ≡ sum n (λ i _. g i) = sum-eq n (λ i _. f i) (λ i _. g i) (λ i p. h i (le_step p) (λ q. omega arith)) in
        rw e (omega arith)
    go below (inr m) = omega (arith, below m, h n (le_refl (suc n)) (λ q. omega arith))

pub sum-tail : (a b c : ℕ) (f : ℕ → ℕ) → ((j : ℕ) → j < b → f (a + j) ≡ c) → sum (a + b) (λ i _. f i) ≡ sum a (λ i _. f i) + c * b
sum-tail a zero c f h = let e : a + 0 ≡ a = omega arith in rw e (omega arith)
sum-tail a (suc b) c f h =
    let e : a + suc b ≡ suc (a + b) = omega arith in
    rw e (omega (arith, sum-tail a b c f (λ j l. h j (le_step l)), h b (le_refl (suc b))))

not-expanded : (κ : Kind) (x : ℕ) → if_expanded κ 1 ≡ 0 → if_expanded κ x ≡ 0
not-expanded Kind.waiting x h = refl
not-expanded Kind.expanded x h = absurd (omega arith)
not-expanded Kind.covered x h = refl
not-expanded Kind.target x h = refl

-- A node's edges end by where all edges end.
pub edges-within : (M : Model) (B : Building) (i : ℕ) → i < B.nodes → edges_before M B i + edges_of M B i ≤ edges_before M B B.nodes
unfolding edges_before
edges-within M B i l = sum_more B.nodes (edges_of M B) i l

module _ (M : Model) (B : Building) (n : ℕ) where
  -- ---- a label grows
  pub edges-tracking : (t : ℕ) (j : ℕ) → edges_before M (tracking n t B) j ≡ edges_before M B j
  unfolding edges_before
  edges-tracking t j = refl

  pub waiting-tracking : (t : ℕ) → waiting_count (tracking n t B) ≡ waiting_count B
  unfolding waiting_count
  waiting-tracking t = refl

  -- ---- a kind changes, and is expanded neither before nor after
  module _ (κ : Kind) (c : ℕ) (before : if_expanded (B.kind n) 1 ≡ 0) (later : if_expanded κ 1 ≡ 0) where
    pub edges-becoming : (j : ℕ) → edges_before M (becoming n κ c B) j ≡ edges_before M B j
    unfolding edges_before
    edges-becoming j = sum-eq j (λ i _. edges_of M (becoming n κ c B) i) (λ i _. edges_of M B i) (λ i _. go i (ℕ_discrete i n))
      where
        go : (i : ℕ) → Dec (i ≡ n) → edges_of M (becoming n κ c B) i ≡ edges_of M B i
        go i (yes e) =
            rw (put-at n κ B.kind i e) (not-expanded κ (edges_length M (B.state i)) later ∙ sym (not-expanded (B.kind i) (edges_length M (B.state i)) (ap (λ (m : ℕ). if_expanded (B.kind m) 1) e ∙ before)))
        go i (no d) = rw (put_other n κ B.kind i d) refl

    pub length-becoming : graph_length M (becoming n κ c B) ≡ graph_length M B
    unfolding graph_length
    length-becoming = ap (λ (x : ℕ). least_bytes + node_size M.variables * B.nodes + x) (edges-becoming B.nodes)

  pub length-tracking : (t : ℕ) → graph_length M (tracking n t B) ≡ graph_length M B
  unfolding graph_length
  length-tracking t = ap (λ (x : ℕ). least_bytes + node_size M.variables * B.nodes + x) (edges-tracking t B.nodes)

  pub waiting-becoming : (κ : Kind) (c : ℕ) → n < B.nodes → waiting_count (becoming n κ c B) + if_waiting (B.kind n) ≡ waiting_count B + if_waiting κ
  unfolding waiting_count
  waiting-becoming κ c l =
      sum_one B.nodes (λ i. if_waiting (put n κ B.kind i)) (λ i. if_waiting (B.kind i)) n l (λ i p d. ap if_waiting (put_other n κ B.kind i d))
      ∙ ap (λ (k : Kind). sum B.nodes (λ i _. if_waiting (B.kind i)) + if_waiting k) (put_same n κ B.kind)

  -- ---- an expansion
  module _ (l : n < B.nodes) (waits : B.kind n ≡ Kind.waiting) where
    abbrev E : Building
    E = expanding M n B

    abbrev born : ℕ → State
    born j = get_or (offspring M (B.state n) M.commands) j []

    kind-old : (i : ℕ) → i < B.nodes → E.kind i ≡ put n Kind.expanded B.kind i
    kind-old i p = grown-old B.nodes (put n Kind.expanded B.kind) (λ j. Kind.waiting) i p

    kind-new : (i : ℕ) → B.nodes ≤ i → E.kind i ≡ Kind.waiting
    kind-new i p = grown-new B.nodes (put n Kind.expanded B.kind) (λ j. Kind.waiting) i p

    edges-other : (i : ℕ) → i < B.nodes → (i ≡ n → ⊥) → edges_of M E i ≡ edges_of M B i
    edges-other i p d = rw (kind-old i p ∙ put_other n Kind.expanded B.kind i d, grown-old B.nodes B.state born i p) refl

    edges-itself : edges_of M E n ≡ edges_length M (B.state n)
    edges-itself = rw (kind-old n l ∙ put_same n Kind.expanded B.kind, grown-old B.nodes B.state born n l) refl

    edges-had : edges_of M B n ≡ 0
    edges-had = rw waits refl

    edges-new : (i : ℕ) → B.nodes ≤ i → edges_of M E i ≡ 0
    edges-new i p = rw (kind-new i p) refl

    -- Up to node n as before; after it, later by its edges; the new nodes' at the end.
    pub edges-up-to : (j : ℕ) → j ≤ n → edges_before M E j ≡ edges_before M B j
    unfolding edges_before
    edges-up-to j h = sum-eq j (λ i _. edges_of M E i) (λ i _. edges_of M B i) (λ i p. edges-other i (omega arith) (λ e. omega arith))

    pub edges-after : (j : ℕ) → n < j → j ≤ B.nodes → edges_before M E j ≡ edges_before M B j + edges_length M (B.state n)
    unfolding edges_before
    edges-after j h k = omega (arith, sum_one j (edges_of M E) (edges_of M B) n h (λ i p d. edges-other i (omega arith) d), edges-itself, edges-had)

    pub edges-past : (j : ℕ) → edges_before M E (B.nodes + j) ≡ edges_before M B B.nodes + edges_length M (B.state n)
    unfolding edges_before
    edges-past j = omega (arith, sum-tail B.nodes j 0 (edges_of M E) (λ i p. edges-new (B.nodes + i) (omega arith)), edges-after B.nodes l (le_refl _))

    pub length-expanding : graph_length M E ≡ length_with M B n
    unfolding graph_length length_with
    length-expanding = omega (arith, edges-past (births M (B.state n)))

    pub waiting-expanding : waiting_count E + 1 ≡ waiting_count B + births M (B.state n)
    unfolding waiting_count
    waiting-expanding =
        let a = sum-tail B.nodes (births M (B.state n)) 1 (λ i. if_waiting (E.kind i)) (λ j p. ap if_waiting (kind-new (B.nodes + j) (omega arith))) in
        let b = sum_one B.nodes (λ i. if_waiting (E.kind i)) (λ i. if_waiting (B.kind i)) n l (λ i p d. ap if_waiting (kind-old i p ∙ put_other n Kind.expanded B.kind i d)) in
        let x : if_waiting (E.kind n) ≡ 0 = ap if_waiting (kind-old n l ∙ put_same n Kind.expanded B.kind) in
        let y : if_waiting (B.kind n) ≡ 1 = ap if_waiting waits in
        omega arith
