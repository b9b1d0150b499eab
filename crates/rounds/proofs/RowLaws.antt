-- The two rows after k rounds: by k's parity, what a turn makes of them, and what they hold once rounds are equal.
-- Assumes nothing.
use Prim.Native.Nat.{ℕ, suc, ◌+◌, ◌-◌, ◌%◌, ◌≤◌, ◌<◌}
use native.Mathlib.Nat.{eq-zero-or-pos, add-sub_cancel}
use native.Mathlib.Numerals.{add-one}
use native.Mathlib.Omega.{arith}
use mathlib.Core.Path.{◌≡◌, refl, sym, ap, ◌∙◌}
use mathlib.Core.Logic.{◌⊎◌, inl, inr, ⊎_elim}
use mathlib.Core.Bool.{true}
use mathlib.Core.List.{List, ◌++◌}
use borrow.Author.Tests.{eq-eqb, ne_eqb, eqb-true}
use lib.ListN.{get_or, drop}
use lib.Seq.{drop_at}
use Rattle.folder.proofs.ScanLaws.{all_true}
use Rattle.model.specs.Model.{model_of}
use Rattle.graph.specs.Simulation.{simulation_of}
use Rattle.graph.specs.Figures.{figures}
use Rattle.graph.specs.Valid.{Valid}
use Rattle.sums.specs.Tables.{Round}
use Rattle.rounds.specs.Rounds.{nodes_of, start_row, next_row, first_at, second_at, turn_first, turn_second, held_in, same_first}
use Rattle.folder.proofs.FillLaws.{drop-filled}
use Rattle.rounds.proofs.FigureLaws.{figures-long, begins, round-held, figures-next, figures-same, settled}

parity : (k : ℕ) → (k % 2 ≡ 0) ⊎ (k % 2 ≡ 1)
parity k = ⊎_elim (λ h. inl h) (λ h. inr (omega arith)) (eq-zero-or-pos (k % 2))

module _ {m g : List ℕ} (A : Valid m g) where
  -- A row that begins with round k.
  abbrev holding : ℕ → List ℕ → List ℕ
  holding k row = figures (model_of m) (simulation_of (model_of m) g) k ++ drop (nodes_of m g) row

  first-even : (k : ℕ) (r : List ℕ) → k % 2 ≡ 0 → first_at m g k r ≡ holding k r
  unfolding first_at
  first-even k r e = simp (eq-eqb (k % 2) 0 e, figures-long A) refl

  first-odd : (k : ℕ) (r : List ℕ) → k % 2 ≡ 1 → first_at m g k r ≡ holding (k - 1) r
  unfolding first_at
  first-odd k r e = simp (ne_eqb (k % 2) 0 (λ z. omega arith), figures-long A) refl

  second-even : (k : ℕ) (r : List ℕ) → 0 < k → k % 2 ≡ 0 → second_at m g k r ≡ holding (k - 1) r
  unfolding second_at
  second-even k r l e = simp (ne_eqb k 0 (λ z. omega arith), eq-eqb (k % 2) 0 e, figures-long A) refl

  second-odd : (k : ℕ) (r : List ℕ) → k % 2 ≡ 1 → second_at m g k r ≡ holding k r
  unfolding second_at
  second-odd k r e = simp (ne_eqb k 0 (λ z. omega arith), ne_eqb (k % 2) 0 (λ z. omega arith), figures-long A) refl

  pub second_none : (r : List ℕ) → r ≡ second_at m g 0 r
  unfolding second_at
  second_none r = refl

  drop-holding : (k : ℕ) (r : List ℕ) → drop (nodes_of m g) (holding k r) ≡ drop (nodes_of m g) r
  drop-holding k r = drop_at (figures (model_of m) (simulation_of (model_of m) g) k) (drop (nodes_of m g) r) (nodes_of m g) (figures-long A k)

  -- The later elements stay.
  drop-first : (k : ℕ) (r : List ℕ) → drop (nodes_of m g) (first_at m g k r) ≡ drop (nodes_of m g) r
  drop-first k r = ⊎_elim (λ e. rw (first-even k r e) (drop-holding k r)) (λ e. rw (first-odd k r e) (drop-holding (k - 1) r)) (parity k)

  drop-second : (k : ℕ) (r : List ℕ) → drop (nodes_of m g) (second_at m g k r) ≡ drop (nodes_of m g) r
  drop-second k r = ⊎_elim
      (λ z. rw z (ap (drop (nodes_of m g)) (sym (second_none r))))
      (λ p. ⊎_elim (λ e. rw (second-even k r p e) (drop-holding (k - 1) r)) (λ e. rw (second-odd k r e) (drop-holding k r)) (parity k))
      (eq-zero-or-pos k)

  next-holding : (k : ℕ) (s t r : List ℕ) → drop (nodes_of m g) t ≡ drop (nodes_of m g) r → next_row m g (holding k s) t ≡ holding (k + 1) r
  next-holding k s t r e = rw (figures-next A k (drop (nodes_of m g) s), e, add-one) refl

  -- ---- the rows as the code has them: a and b after k rounds, of rows r and s
  module _ (k : ℕ) (r s : List ℕ) {a b : List ℕ} (p : a ≡ first_at m g k r) (q : b ≡ second_at m g k s) where
    pub round-here : Round (nodes_of m g) (held_in k a b)
    unfolding held_in
    round-here = ⊎_elim
        (λ e. rw (eq-eqb (k % 2) 0 e, p, first-even k r e) (round-held A k (drop (nodes_of m g) r)))
        (λ e. rw (ne_eqb (k % 2) 0 (λ z. omega arith), q, second-odd k s e) (round-held A k (drop (nodes_of m g) s)))
        (parity k)

    pub turned-first : turn_first m g k a b ≡ first_at m g (k + 1) r
    unfolding turn_first
    turned-first = ⊎_elim
        (λ e. rw (eq-eqb (k % 2) 0 e, p, first-even k r e, first-odd (k + 1) r (omega arith), add-sub_cancel) refl)
        (λ e. rw (ne_eqb (k % 2) 0 (λ z. omega arith), p, q, second-odd k s e, first-even (k + 1) r (omega arith)) (next-holding k s (first_at m g k r) r (drop-first k r)))
        (parity k)

    pub turned-second : turn_second m g k a b ≡ second_at m g (k + 1) s
    unfolding turn_second
    turned-second = ⊎_elim
        (λ e. rw (eq-eqb (k % 2) 0 e, p, q, first-even k r e, second-odd (k + 1) s (omega arith)) (next-holding k r (second_at m g k s) s (drop-second k s)))
        (λ e. rw (ne_eqb (k % 2) 0 (λ z. omega arith), q, second-odd k s e, second-even (k + 1) s (omega arith) (omega arith), add-sub_cancel) refl)
        (parity k)

  -- Round 0 in the first row.
  first_tail : (h : ℕ) (a r : List ℕ) → drop (nodes_of m g) a ≡ drop (nodes_of m g) r → first_at m g h a ≡ first_at m g h r
  first_tail h a r t = ⊎_elim (λ e. rw (first-even h a e, first-even h r e, t) refl) (λ e. rw (first-odd h a e, first-odd h r e, t) refl) (parity h)

  start_first : (r : List ℕ) → start_row m g r ≡ first_at m g 0 r
  unfolding figures
  start_first r = sym (first-even 0 r refl)

  module _ (r : List ℕ) {a : List ℕ} (p : a ≡ start_row m g r) where
    pub after-start : (h : ℕ) → first_at m g h a ≡ first_at m g h r
    after-start h = first_tail h a r (ap (drop (nodes_of m g)) p ∙ drop-filled (nodes_of m g) _ r)

    pub begun : a ≡ first_at m g 0 a
    begun = p ∙ start_first r ∙ sym (after-start 0)

  -- ---- equal rounds
  module _ (k : ℕ) (e : figures (model_of m) (simulation_of (model_of m) g) (suc k) ≡ figures (model_of m) (simulation_of (model_of m) g) k) (r : List ℕ) where
    same-holding : (j : ℕ) → k ≤ j → holding j r ≡ holding k r
    same-holding j l = rw (settled A k e j l) refl

    first-settled : (j : ℕ) → k < j → first_at m g j r ≡ holding k r
    first-settled j l = ⊎_elim
        (λ p. first-even j r p ∙ same-holding j (omega arith))
        (λ p. first-odd j r p ∙ same-holding (j - 1) (omega arith))
        (parity j)

    second-settled : (j : ℕ) → k < j → second_at m g j r ≡ holding k r
    second-settled j l = ⊎_elim
        (λ p. second-even j r (omega arith) p ∙ same-holding (j - 1) (omega arith))
        (λ p. second-odd j r p ∙ same-holding j (omega arith))
        (parity j)

  alike-rounds : (i j : ℕ) (r s : List ℕ) {a b : List ℕ} → a ≡ holding i r → b ≡ holding j s → same_first (nodes_of m g) a b ≡ true
      → figures (model_of m) (simulation_of (model_of m) g) i ≡ figures (model_of m) (simulation_of (model_of m) g) j
  unfolding same_first
  alike-rounds i j r s p q t = figures-same A i j (λ n l.
      sym (begins A i (drop (nodes_of m g) r) n l)
      ∙ ap (λ (row : List ℕ). get_or row n 0) (sym p)
      ∙ eqb-true _ _ (all_true _ (nodes_of m g) t n l)
      ∙ ap (λ (row : List ℕ). get_or row n 0) q
      ∙ begins A j (drop (nodes_of m g) s) n l)

  -- The rows a and b are what they are after h rounds.
  pub record Settled (h : ℕ) (r s a b : List ℕ) : Type 0 where
    pub first : a ≡ first_at m g h r
    pub second : b ≡ second_at m g h s

  module _ (k h : ℕ) (r s : List ℕ) {a b : List ℕ} (p : a ≡ first_at m g (k + 1) r) (q : b ≡ second_at m g (k + 1) s) (l : k < h) where
    equal-rounds : same_first (nodes_of m g) a b ≡ true → figures (model_of m) (simulation_of (model_of m) g) (suc k) ≡ figures (model_of m) (simulation_of (model_of m) g) k
    equal-rounds t = ⊎_elim
        (λ e. sym (alike-rounds k (suc k) r s (p ∙ rw (first-odd (k + 1) r (omega arith), add-sub_cancel) refl) (q ∙ rw (second-odd (k + 1) s (omega arith), add-one) refl) t))
        (λ e. alike-rounds (suc k) k r s (p ∙ rw (first-even (k + 1) r (omega arith), add-one) refl) (q ∙ rw (second-even (k + 1) s (omega arith) (omega arith), add-sub_cancel) refl) t)
        (parity k)

    -- After k + 1 rounds they are already, where both hold the same figures.
    pub at-the-end : {n : ℕ} → n ≡ nodes_of m g → same_first n a b ≡ true → Settled h r s a b
    at-the-end z e =
        let f = equal-rounds (rw z at e) in
        record {
          first = p ∙ first-settled k f r (k + 1) (omega arith) ∙ sym (first-settled k f r h l);
          second = q ∙ second-settled k f s (k + 1) (omega arith) ∙ sym (second-settled k f s h l);
        }
