-- What an entry is in a state, from a row that has what its parts are.
-- Assumes nothing.
use Prim.Native.Nat.{ℕ, ◌<◌, ◌≤◌}
use mathlib.Core.Path.{◌≡◌, refl, sym, ap, ◌∙◌}
use mathlib.Core.Bool.{Bool, true, false}
use mathlib.Core.List.{List}
use native.Mathlib.Omega.{arith}
use borrow.Author.Tests.{not-true}
use lib.ListN.{get_or, length}
use lib.IntN.{ℤ, pos}
use lib.Signed.{mag}
use Rattle.folder.specs.Pick.{pick}
use Rattle.folder.proofs.Decides.{unless}
use Rattle.whole.specs.Limits.{farthest}
use Rattle.whole.specs.Order.{eq_z}
use Rattle.expressions.specs.Entries.{Entries, number_form, truth_form, is_number}
use Rattle.expressions.specs.Levels.{number_step, truth_step, number_at, truth_at}
use Rattle.expressions.specs.Meaning.{State, meaning, number_in, truth_in}
use Rattle.expressions.specs.Parts.{EachN, EachT, Lower}
use Rattle.expressions.specs.Right.{IsNumber, IsTruth, NumberPart, TruthPart}
use Rattle.expressions.specs.declared.NumberForm.{NumberForm}
use Rattle.expressions.specs.declared.NumberForm.TheVariants.{Binary, If}
use Rattle.expressions.specs.declared.TruthForm.{TruthForm}
use Rattle.expressions.specs.declared.Arith.{Arith}
use Rattle.expressions.proofs.Decided.{number-decided}
use Rattle.expressions.proofs.Interval.{in-range}
use Rattle.expressions.proofs.Levels.{equal, each_number, each-truth, lower, number-settled, truth-settled}
use Rattle.expressions.proofs.Parts.{both-number, both-truth, map-number, map-truth}
use Rattle.expressions.proofs.Related.{number_step_lem, truth-step}
use Rattle.expressions.proofs.Small.{small}
use Rattle.evaluate.specs.Formed.{Grounded}
use Rattle.evaluate.proofs.Readable.{narrow}
use Rattle.states.specs.Stated.{truth_number, entry_in, HasEntry, HasFlagged, Parted}

-- A truth read back from its number.
pub truth-back : (b : Bool) → eq_z (truth_number b) (pos 1) ≡ b
unfolding eq_z
truth-back true = refl
truth-back false = refl

module _ (x : Entries) (s : State) where
  pub entry-number : (e : ℕ) → IsNumber x e → entry_in x s e ≡ number_in x s e
  unfolding entry_in
  entry-number e i = rw ((number-decided x e).no i)

  pub entry-truth : (e : ℕ) → IsTruth x e → entry_in x s e ≡ truth_number (truth_in x s e)
  unfolding entry_in
  entry-truth e i = rw (not-true (is_number x e) ((unless (number-decided x e)).no (λ n. omega arith)))

  module _ (grounded : Grounded x s) where
    pub number_small : (e : ℕ) → mag (number_in x s e) ≤ farthest
    number_small e =
        small (in-range x grounded.bound s (λ i. record { low = grounded.low i; high = grounded.high i }) e) (narrow x grounded.variables grounded.bound grounded.formed e)

    module _ (row : List ℤ) (e : ℕ) (parted : Parted x s row e) where
      parts-lower : Lower x
      parts-lower = lower x grounded.variables grounded.formed.right

      -- A part is lower, of its sort, and stands in the row.
      abbrev PartN : ℕ → Type 0
      PartN p = HasEntry x s row p × NumberPart x e p

      abbrev PartT : ℕ → Type 0
      PartT p = HasEntry x s row p × TruthPart x e p

      number-parts : EachN PartN PartT (number_form x e)
      number-parts = both-number (HasEntry x s row) (HasEntry x s row) (NumberPart x e) (TruthPart x e) (number_form x e) parted.number (each_number x grounded.variables e (λ p h. h) (λ p h. h) (λ l. (grounded.formed.right e l).form))

      truth-parts : EachT PartN PartT (truth_form x e)
      truth-parts = both-truth (HasEntry x s row) (HasEntry x s row) (NumberPart x e) (TruthPart x e) (truth_form x e) parted.truth (each-truth x grounded.variables e (λ p h. h) (λ p h. h) (λ l. (grounded.formed.right e l).form))

      abbrev num : ℕ → ℤ
      num p = get_or row p (pos 0)

      abbrev tru : ℕ → Bool
      tru p = eq_z (get_or row p (pos 0)) (pos 1)

      part-number : (p : ℕ) → PartN p → num p ≡ number_at (meaning s) x e p
      part-number p h = h.0 ∙ entry-number p h.1.1 ∙ sym (number-settled (meaning s) x parts-lower e p h.1.0)

      part-truth : (p : ℕ) → PartT p → tru p ≡ truth_at (meaning s) x e p
      part-truth p h =
          ap (λ (z : ℤ). eq_z z (pos 1)) (h.0 ∙ entry-truth p h.1.1) ∙ truth-back (truth_in x s p) ∙ sym (truth-settled (meaning s) x parts-lower e p h.1.0)

      -- f is the entry's form.
      pub number-from : {g : NumberForm} (f : NumberForm) → g ≡ number_form x e → g ≡ f → number_step (meaning s) num tru f ≡ number_in x s e
      unfolding number_at
      number-from f l k = rw (← k, l) (number_step_lem (meaning s) (meaning s) ◌≡◌ ◌≡◌ (equal (meaning s)) part-number part-truth (number_form x e) number-parts)

      pub truth-from : {g : TruthForm} (f : TruthForm) → g ≡ truth_form x e → g ≡ f → truth_step (meaning s) num tru f ≡ truth_in x s e
      unfolding truth_at
      truth-from f l k = rw (← k, l) (truth-step (meaning s) (meaning s) ◌≡◌ ◌≡◌ (equal (meaning s)) part-number part-truth (truth_form x e) truth-parts)

      module _ {g : NumberForm} (c p q : ℕ) (l : g ≡ number_form x e) (f : g ≡ If c p q) {t : Bool} (h : t ≡ tru c) where
        pub if-taken : t ≡ true → {a : ℤ} → a ≡ num p → a ≡ number_in x s e
        if-taken k r = r ∙ ap (λ (b : Bool). pick b (num p) (num q)) (sym (sym h ∙ k)) ∙ number-from (If c p q) l f

        pub if-left : t ≡ false → {a : ℤ} → a ≡ num q → a ≡ number_in x s e
        if-left k r = r ∙ ap (λ (b : Bool). pick b (num p) (num q)) (sym (sym h ∙ k)) ∙ number-from (If c p q) l f

      part_small : (p : ℕ) → PartN p → {a : ℤ} → a ≡ num p → mag a ≤ farthest
      part_small p h q = rw (q ∙ h.0 ∙ entry-number p h.1.1) (number_small p)

      pub parts-small : {g : NumberForm} (k : Arith) (p q : ℕ) → g ≡ number_form x e → g ≡ Binary k p q → {a b : ℤ} → a ≡ num p → b ≡ num q → (mag a ≤ farthest) × (mag b ≤ farthest)
      parts-small k p q l f m n = let h = rw (sym l ∙ f) at number-parts in (part_small p h.0 m, part_small q h.1 n)

-- A row filled as far as e has the parts of entry e.
module _ (x : Entries) (low : Lower x) (s : State) (row : List ℤ) (e : ℕ) (filled : (p : ℕ) → p < e → HasEntry x s row p) where
  pub parted-below : Parted x s row e
  parted-below = record {
    number = map-number filled filled (number_form x e) (low.number e);
    truth = map-truth filled filled (truth_form x e) (low.truth e);
  }

-- A row that is right below e, and where an entry is flagged.
module _ (x : Entries) (s : State) (known : List ℕ) (row : List ℤ) where
  pub record StatedTo (size e : ℕ) : Type 0 where
    pub long : length row ≡ size
    pub is : (k : ℕ) → k < e → HasEntry x s row k
    pub flagged : HasFlagged x s row known

  module _ {size e : ℕ} (h : StatedTo size e) where
    pub stated-parted : Grounded x s → Parted x s row e
    stated-parted g = parted-below x (lower x g.variables g.formed.right) s row e h.is
