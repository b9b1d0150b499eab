-- Document 02, 2.6: each move keeps the waiting count, and where each node's edges begin.
-- Assumes nothing.
use Prim.Native.Nat.{ℕ, zero, suc, ◌+◌, ◌-◌, ◌<◌, ◌≤◌}
use mathlib.Core.Path.{◌≡◌, refl, sym, ap, ◌∙◌}
use native.Mathlib.Nat.{le_step, le_refl}
use native.Mathlib.Decide.{dec_lt, ℕ_discrete}
use native.Mathlib.Omega.{arith}
use borrow.Author.Tests.{le-leb, lt-leb, lt-ltb, le-ltb}
use Rattle.mdp.specs.Sums.{sum}
use Rattle.mdp.specs.Kinds.{Kind}
use Rattle.mdp.proofs.SumLaws.{sum_more, sum-few}
use Rattle.model.specs.Model.{Model}
use Rattle.building.specs.Building.{Building, births, if_expanded}
use Rattle.building.specs.Length.{edges_length, edges_before, if_waiting, waiting_count}
use Rattle.building.specs.Moves.{tracking, becoming, expanding, seed, apply, track, adopt, drop, cover_by, reach, expand}
use Rattle.building.specs.Counts.{Counts, begin_after}
use Rattle.building.proofs.Lengths.{edges-tracking, waiting-tracking, edges-becoming, waiting-becoming, edges-up-to, edges-after, edges-past, waiting-expanding}

-- ---- where edges begin after an expansion
module _ (n nodes births bytes end : ℕ) (begin : ℕ → ℕ) (i : ℕ) where
  pub after-own : i ≤ n → begin_after n nodes births bytes end begin i ≡ begin i
  unfolding begin_after
  after-own h = rw (le-leb i n h) refl

  pub after-later : n < i → i < nodes → begin_after n nodes births bytes end begin i ≡ begin i + bytes
  unfolding begin_after
  after-later h l = rw (lt-leb i n h, lt-ltb i nodes l) refl

  pub after-new : n < nodes → nodes ≤ i → i < nodes + births → begin_after n nodes births bytes end begin i ≡ end
  unfolding begin_after
  after-new t h l = rw (lt-leb i n (omega arith), le-ltb i nodes h, lt-ltb i (nodes + births) l) refl

  pub after-past : n < nodes → nodes + births ≤ i → begin_after n nodes births bytes end begin i ≡ begin i
  unfolding begin_after
  after-past t h = rw (lt-leb i n (omega arith), le-ltb i nodes (omega arith), le-ltb i (nodes + births) h) refl

-- ---- at the start
pub seed-counts : (M : Model) {begin : ℕ → ℕ} → begin 0 ≡ 0 → Counts M (seed M) 1 begin
unfolding waiting_count edges_before
seed-counts M {begin} e = record { counted = refl; walked = λ i l. let z : i ≡ 0 = omega arith in rw z e }

-- No more nodes wait than there are.
one-or-none : (κ : Kind) → if_waiting κ ≤ 1
one-or-none Kind.waiting = omega arith
one-or-none Kind.expanded = omega arith
one-or-none Kind.covered = omega arith
one-or-none Kind.target = omega arith

pub waiting_few : {M : Model} {B : Building} {waiting : ℕ} {begin : ℕ → ℕ} → Counts M B waiting begin → waiting ≤ B.nodes
unfolding waiting_count
waiting_few {B = B} C = omega (arith, C.counted, sum-few 1 B.nodes (λ i. if_waiting (B.kind i)) (λ i _. one-or-none (B.kind i)))

-- ---- what the count tells: none waits, or some node does
sum-some : (n : ℕ) (f : ℕ → ℕ) → (sum n (λ i _. f i) ≡ 0 → ⊥) → (i : ℕ) × (i < n) × (f i ≡ 0 → ⊥)
sum-some zero f h = absurd (h refl)
sum-some (suc n) f h = go (ℕ_discrete (f n) 0) (λ k. sum-some n f k)
  where
    go : Dec (f n ≡ 0) → ((sum n (λ i _. f i) ≡ 0 → ⊥) → (i : ℕ) × (i < n) × (f i ≡ 0 → ⊥)) → (i : ℕ) × (i < suc n) × (f i ≡ 0 → ⊥)
    go (yes e) below = let p = below (λ z. h (omega arith)) in (p.0, le_step p.1, p.2)
    go (no d) below = (n, le_refl (suc n), d)

one-waits : (κ : Kind) → (if_waiting κ ≡ 0 → ⊥) → κ ≡ Kind.waiting
one-waits Kind.waiting h = refl
one-waits Kind.expanded h = absurd (h refl)
one-waits Kind.covered h = absurd (h refl)
one-waits Kind.target h = absurd (h refl)

module _ (B : Building) where
  pub none-waits : waiting_count B ≡ 0 → (i : ℕ) → i < B.nodes → B.kind i ≡ Kind.waiting → ⊥
  unfolding waiting_count
  none-waits e i l k = let w : if_waiting (B.kind i) ≡ 1 = ap if_waiting k in omega (arith, sum_more B.nodes (λ j. if_waiting (B.kind j)) i l)

  pub one-of-them : (waiting_count B ≡ 0 → ⊥) → (i : ℕ) × (i < B.nodes) × (B.kind i ≡ Kind.waiting)
  unfolding waiting_count
  one-of-them h = let p = sum-some B.nodes (λ i. if_waiting (B.kind i)) h in (p.0, p.1, one-waits (B.kind p.0) p.2)

-- ---- each move
module _ (M : Model) (B : Building) {waiting : ℕ} {begin : ℕ → ℕ} (C : Counts M B waiting begin) (n : ℕ) where
  -- ---- a label grows
  tracking-counts : (t : ℕ) → Counts M (tracking n t B) waiting begin
  tracking-counts t = record {
    counted = C.counted ∙ sym (waiting-tracking M B n t);
    walked = λ i l. C.walked i l ∙ sym (edges-tracking M B n t i);
  }

  pub track-counts : (v : ℕ) → Counts M (apply M (track n v) B) waiting begin
  track-counts v = tracking-counts _

  pub adopt-counts : Counts M (apply M (adopt n) B) waiting begin
  adopt-counts = tracking-counts _

  module _ (l : n < B.nodes) where
    -- ---- a kind changes
    becoming-counts : (κ : Kind) (c : ℕ) → if_expanded (B.kind n) 1 ≡ 0 → if_expanded κ 1 ≡ 0 → {later : ℕ} → later + if_waiting (B.kind n) ≡ waiting + if_waiting κ
        → Counts M (becoming n κ c B) later begin
    becoming-counts κ c was is e = record {
      counted = omega (arith, e, C.counted, waiting-becoming M B n κ c l);
      walked = λ i h. C.walked i h ∙ sym (edges-becoming M B n κ c was is i);
    }

    -- It waits again.
    pub drop-counts : B.kind n ≡ Kind.covered → Counts M (apply M (drop n) B) (waiting + 1) begin
    drop-counts k = becoming-counts Kind.waiting 0 (ap (λ (κ : Kind). if_expanded κ 1) k) refl (omega (arith, ap if_waiting k))

    -- It waits no longer.
    module _ (k : B.kind n ≡ Kind.waiting) where
      waits : if_waiting (B.kind n) ≡ 1
      waits = ap if_waiting k

      pub some-waits : 0 < waiting
      unfolding waiting_count
      some-waits = omega (arith, C.counted, waits, sum_more B.nodes (λ i. if_waiting (B.kind i)) n l)

      pub cover-counts : (c : ℕ) → Counts M (apply M (cover_by n c) B) (waiting - 1) begin
      cover-counts c = becoming-counts Kind.covered c (ap (λ (κ : Kind). if_expanded κ 1) k) refl (omega (arith, waits, some-waits))

      pub reach-counts : Counts M (apply M (reach n) B) (waiting - 1) begin
      reach-counts = becoming-counts Kind.target 0 (ap (λ (κ : Kind). if_expanded κ 1) k) refl (omega (arith, waits, some-waits))

      -- ---- an expansion
      abbrev born : ℕ
      born = births M (B.state n)

      abbrev bytes : ℕ
      bytes = edges_length M (B.state n)

      abbrev after : ℕ → ℕ
      after = begin_after n B.nodes born bytes (edges_before M B B.nodes + bytes) begin

      expand-walked : (i : ℕ) → i < B.nodes + born → after i ≡ edges_before M (expanding M n B) i
      expand-walked i h = go (dec_lt n i) (dec_lt i B.nodes)
        where
          go : Dec (n < i) → Dec (i < B.nodes) → after i ≡ edges_before M (expanding M n B) i
          go (no d) t =
              after-own n B.nodes born bytes _ begin i (omega arith) ∙ C.walked i (omega arith) ∙ sym (edges-up-to M B n l k i (omega arith))
          go (yes p) (yes q) =
              after-later n B.nodes born bytes _ begin i p q ∙ ap (λ (x : ℕ). x + bytes) (C.walked i q) ∙ sym (edges-after M B n l k i p (omega arith))
          go (yes p) (no d) =
              let e : B.nodes + (i - B.nodes) ≡ i = omega arith in
              after-new n B.nodes born bytes _ begin i l (omega arith) h ∙ sym (edges-past M B n l k (i - B.nodes)) ∙ ap (edges_before M (expanding M n B)) e

      pub expand-counts : Counts M (apply M (expand n) B) (waiting - 1 + born) (begin_after n B.nodes born bytes (edges_before M B B.nodes + bytes) begin)
      expand-counts = record {
        counted = omega (arith, C.counted, some-waits, waiting-expanding M B n l k);
        walked = expand-walked;
      }
