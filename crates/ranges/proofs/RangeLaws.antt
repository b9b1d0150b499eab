-- A range from the ranges of the parts; ranges are in order, and within the limits their ends are small.
-- Assumes nothing.
use Prim.Native.Nat.{ℕ, ◌<◌, ◌^◌}
use mathlib.Core.Path.{◌≡◌, refl, sym, subst, ◌∙◌}
use mathlib.Core.List.{List}
use native.Mathlib.Nat.{lt_trans, le_trans, le_of_lt}
use lib.IntN.{ℤ, pos}
use lib.Signed.{mag}
use mir.Syntax.{w64}
use mir.Val.{to_z, of_z}
use Rattle.folder.specs.Contents.{count_of, signed_field}
use Rattle.folder.specs.Tab.{tab}
use Rattle.folder.proofs.Signed.{called}
use Rattle.folder.proofs.TabLaws.{length-tab, get_or-tab}
use Rattle.whole.proofs.Order.{to-⊑, from-⊑, ⊑_refl, ⊑_trans}
use Rattle.expressions.specs.Entries.{entries_of, number_form}
use Rattle.expressions.specs.Levels.{number_step, number_at}
use Rattle.expressions.specs.Parts.{EachN}
use Rattle.expressions.specs.Meaning.{State, value_of}
use Rattle.expressions.specs.Ranges.{span, ranging, bound_in, range_of, limits}
use Rattle.expressions.specs.Right.{Inside}
use Rattle.expressions.specs.declared.NumberForm.{NumberForm}
use Rattle.expressions.specs.declared.Range.{Range}
use Rattle.expressions.proofs.Interval.{In, in-bound-of, in-range, bound-here}
use Rattle.expressions.proofs.Levels.{equal, number-settled}
use Rattle.expressions.proofs.Related.{number_step_lem}
use Rattle.expressions.proofs.Small.{small}
use Rattle.ranges.specs.Settled.{Ordered, Near, Based, range_in, Ranged}

-- ---- ends

-- A call on two ends that are read out of ranges.
pub of-ends : (op : ℤ → ℤ → ℤ) (a b : ℤ) {r : ℤ} → mag r < 2 ^ 63 → r ≡ op (to_z w64 (of_z w64 a)) (to_z w64 (of_z w64 b)) → mag a < 2 ^ 63 → mag b < 2 ^ 63
    → to_z w64 (of_z w64 r) ≡ op a b
of-ends op a b ok e h l = called op ok e (record { sfits = h }) (record { sfits = l })

-- ---- order

low-in : {r : Range} → Ordered r → In r r.low
low-in {r} h = record { low = from-⊑ (⊑_refl r.low); high = h.ends }

high-in : {r : Range} → Ordered r → In r r.high
high-in {r} h = record { low = h.ends; high = from-⊑ (⊑_refl r.high) }

-- A range in which a number lies.
in-ordered : {r : Range} {z : ℤ} → In r z → Ordered r
in-ordered h = record { ends = from-⊑ (⊑_trans (to-⊑ h.low) (to-⊑ h.high)) }

near : {r : Range} → Ordered r → Inside r limits → Near r
near h i = record { low = small (low-in h) i; high = small (high-in h) i }

module _ (x y : List ℕ) (based : Based x y) where
  -- The state in which each variable has its least value.
  lowest : State
  lowest = tab (count_of 6 y) (λ v. signed_field 6 y v 0)

  each-lowest : (v : ℕ) → v < count_of 6 y → In (span (signed_field 6 y v 0) (signed_field 6 y v 1)) (value_of lowest v)
  unfolding lowest
  each-lowest v l = rw (get_or-tab (pos 0) (count_of 6 y) (λ v. signed_field 6 y v 0) v l) (low-in (rw (bound-here y v refl l) (based.ordered v)))

  lowest-in : (v : ℕ) → In (bound_in y v) (value_of lowest v)
  unfolding lowest bound_in
  lowest-in = in-bound-of (count_of 6 y) (λ v. signed_field 6 y v 0) (λ v. signed_field 6 y v 1) lowest (length-tab (count_of 6 y) _) each-lowest

  range-ordered : (e : ℕ) → Ordered (range_in x y e)
  range-ordered e = in-ordered (in-range (entries_of x) (bound_in y) lowest lowest-in e)

-- ---- from the ranges of lower entries

module _ {x y : List ℕ} {row : List Range} {settled e : ℕ} (ranged : Ranged x y row settled e) where
  pub down : {t p : ℕ} → e ≡ t → p < e → (p < t) × Ranged x y row settled p
  down {t} {p} q h = (
    subst (λ (k : ℕ). p < k) q h,
    record {
      based = ranged.based;
      held = ranged.held;
      inside = λ i l. ranged.inside i (lt_trans l h);
      small = le_trans (le_of_lt h) ranged.small;
    },
  )

  pub part-near : {p : ℕ} {r : Range} → p < e → r ≡ range_in x y p → Near r
  part-near {p} h q = subst (λ (r : Range). Near r) (sym q) (near (range-ordered x y ranged.based p) (ranged.inside p h))

  -- Entry e, whose form is f.
  module _ {f : NumberForm} (h : number_form (entries_of x) e ≡ f) where
    pub parts : EachN (λ p. p < e) (λ p. p < e) f
    parts = subst (λ (g : NumberForm). EachN (λ p. p < e) (λ p. p < e) g) h (ranged.based.lower.number e)

    pub level : number_step (ranging (bound_in y)) (range_in x y) (λ p. tt) f ≡ range_in x y e
    unfolding range_of number_at
    level =
        number_step_lem (ranging (bound_in y)) (ranging (bound_in y)) ◌≡◌ ◌≡◌ (equal (ranging (bound_in y)))
        (λ p l. sym (number-settled (ranging (bound_in y)) (entries_of x) ranged.based.lower e p l))
        (λ p l. refl)
        f parts
        ∙ rw (← h)
