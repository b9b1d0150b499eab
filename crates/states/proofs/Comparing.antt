-- The loop that lowers the flags of entries that two rows have different numbers for.
-- Assumes nothing.
use Prim.Native.Nat.{ℕ, ◌+◌, ◌≤◌, ◌<◌, zero-le}
use mathlib.Core.Path.{◌≡◌, refl, sym, ap, ◌∙◌}
use mathlib.Core.Bool.{Bool, true, false}
use mathlib.Core.List.{List}
use native.Mathlib.Decide.{ℕ_discrete, dec_lt}
use native.Mathlib.Omega.{arith}
use lib.ListN.{get_or, length, set, length-set}
use lib.Seq.{get_or-set_same, get_or-set_other}
use lib.IntN.{ℤ, pos}
use Rattle.whole.specs.Order.{eq_z}
use Rattle.whole.proofs.Order.{equal-decided}
use Rattle.states.specs.Needed.{Up, kept_if, Compared}

module _ (list : List ℕ) (values state : List ℤ) (before : List ℕ) where
  abbrev Same : ℕ → Type 0
  Same k = get_or values k (pos 0) ≡ get_or state k (pos 0)

  -- As far as place i of the list.
  pub record ComparedTo (flags : List ℕ) (i : ℕ) : Type 0 where
    pub within : i ≤ length list
    pub long : length flags ≡ length before
    pub fewer : (k : ℕ) → Up flags k → Up before k
    pub same : (j : ℕ) → j < i → Up flags (get_or list j 0) → Same (get_or list j 0)
    pub differs : (k : ℕ) → Up before k → (Up flags k → ⊥) → Same k → ⊥

  pub compare-start : ComparedTo before 0
  compare-start = record { within = zero-le; long = refl; fewer = λ k h. h; same = λ j l h. absurd (omega arith); differs = λ k h d e. d h }

  module _ {flags : List ℕ} {i : ℕ} (h : ComparedTo flags i) where
    pub compare-over : length list ≤ i → Compared list values state before flags
    compare-over l = record { fewer = h.fewer; same = λ j k u. h.same j (omega arith) u; differs = h.differs }

    module _ (l : i < length list) {e : ℕ} (q : e ≡ get_or list i 0) (there : e < length before) {t : Bool} (tested : t ≡ eq_z (get_or values e (pos 0)) (get_or state e (pos 0))) where
      after : List ℕ
      after = set flags e (kept_if t (get_or flags e 0))

      at-e : get_or after e 0 ≡ kept_if t (get_or flags e 0)
      unfolding after
      at-e = get_or-set_same flags e (kept_if t (get_or flags e 0)) 0 (omega (arith, h.long))

      elsewhere : (k : ℕ) → (k ≡ e → ⊥) → get_or after k 0 ≡ get_or flags k 0
      unfolding after
      elsewhere k d = get_or-set_other flags e k (kept_if t (get_or flags e 0)) 0 d

      kept-up : (b : Bool) (f : ℕ) → kept_if b f ≡ 1 → (b ≡ true) × (f ≡ 1)
      kept-up true f u = (refl, u)
      kept-up false f u = absurd (omega arith)

      was-up : (k : ℕ) → Up after k → Dec (k ≡ e) → Up flags k × (k ≡ e → Same e)
      was-up k u (yes p) =
          let w = kept-up t (get_or flags e 0) (sym at-e ∙ rw p at u) in
          (rw p w.1, λ r. (equal-decided (get_or values e (pos 0)) (get_or state e (pos 0))).yes (sym tested ∙ w.0))
      was-up k u (no d) = (sym (elsewhere k d) ∙ u, λ r. absurd (d r))

      down : (k : ℕ) → Up flags k → (Up after k → ⊥) → Dec (k ≡ e) → Same k → ⊥
      down k u d (yes p) s =
          let y : t ≡ true = tested ∙ (equal-decided (get_or values e (pos 0)) (get_or state e (pos 0))).no (rw p at s) in
          d (rw p (at-e ∙ ap (λ (b : Bool). kept_if b (get_or flags e 0)) y ∙ rw p at u))
      down k u d (no g) s = d (elsewhere k g ∙ u)

      differs-after : (k : ℕ) → Up before k → (Up after k → ⊥) → Dec (get_or flags k 0 ≡ 1) → Same k → ⊥
      differs-after k b d (yes u) s = down k u d (ℕ_discrete k e) s
      differs-after k b d (no g) s = h.differs k b g s

      same_after : (j : ℕ) → j < i + 1 → Up after (get_or list j 0) → Dec (j < i) → Same (get_or list j 0)
      same_after j k u (yes m) = h.same j m (was-up (get_or list j 0) u (ℕ_discrete (get_or list j 0) e)).0
      same_after j k u (no m) =
          let p : j ≡ i = omega arith in
          let r : get_or list j 0 ≡ e = ap (λ (n : ℕ). get_or list n 0) p ∙ sym q in
          rw r ((was-up (get_or list j 0) u (ℕ_discrete (get_or list j 0) e)).1 r)

      pub compare-next : ComparedTo (set flags e (kept_if t (get_or flags e 0))) (i + 1)
      unfolding after
      compare-next = record {
        within = omega arith;
        long = length-set flags e (kept_if t (get_or flags e 0)) ∙ h.long;
        fewer = λ k u. h.fewer k (was-up k u (ℕ_discrete k e)).0;
        same = λ j k u. same_after j k u (dec_lt j i);
        differs = λ k b d. differs-after k b d (ℕ_discrete (get_or flags k 0) 1);
      }
