-- Rows that have the readings of lower entries give the reading of the next; rows filled upward have all of them, and in a
-- state its numbers.
-- Assumes nothing.
use Prim.Native.Nat.{ℕ, ◌<◌}
use mathlib.Core.Path.{◌≡◌, refl, sym, ap, ◌∙◌}
use mathlib.Core.Bool.{Bool, true, false}
use mathlib.Core.List.{List}
use native.Mathlib.Omega.{arith}
use borrow.Author.Tests.{not-true}
use lib.Dec.{eqb}
use lib.ListN.{get_or}
use lib.IntN.{ℤ, pos}
use Rattle.folder.specs.Pick.{pick}
use Rattle.folder.specs.Tab.{fill}
use Rattle.folder.proofs.Decides.{unless}
use Rattle.whole.specs.Order.{eq_z}
use Rattle.folder.proofs.FillLaws.{get_or-filled}
use Rattle.expressions.specs.Limits.{all_tracked}
use Rattle.expressions.specs.Entries.{Entries, number_form, truth_form, is_number}
use Rattle.expressions.specs.Levels.{number_step, truth_step, number_at, truth_at}
use Rattle.expressions.specs.Meaning.{State, number_in}
use Rattle.expressions.specs.Parts.{EachN, EachT, Lower}
use Rattle.expressions.specs.Reading.{look_in, reading, read_number, read_truth}
use Rattle.expressions.specs.Right.{IsNumber, IsTruth, NumberPart, TruthPart}
use Rattle.expressions.specs.ThreeWay.{Number, Truth}
use Rattle.expressions.specs.declared.NumberForm.{NumberForm}
use Rattle.expressions.specs.declared.NumberForm.TheVariants.{Binary}
use Rattle.expressions.specs.declared.TruthForm.{TruthForm}
use Rattle.expressions.specs.declared.Arith.{Arith}
use Rattle.expressions.proofs.Decided.{number-decided}
use Rattle.expressions.proofs.Levels.{equal, each_number, each-truth, lower, number-settled, truth-settled}
use Rattle.expressions.proofs.Related.{number_step_lem, truth-step}
use Rattle.evaluate.specs.Bounded.{Small, Bounded}
use Rattle.evaluate.specs.Formed.{Ready, Grounded}
use Rattle.evaluate.specs.Settled.{as_number, flag_of, content_of, number_from, truth_from, entry_reading, flag_at, content_at, Settled, StateRow}
use Rattle.evaluate.proofs.Readable.{bounded, number-known, number-open}
use Rattle.std.specs.Prelude.{None, Some}

-- ---- a reading and what the rows have for it
from-number : (a : Number) → number_from (flag_of a) (content_of a) ≡ a
from-number (Some z) = refl
from-number None = refl

from-truth : (a : Truth) → truth_from (flag_of (as_number a)) (content_of (as_number a)) ≡ a
unfolding eq_z
from-truth (Some true) = refl
from-truth (Some false) = refl
from-truth None = refl

module _ (x : Entries) (look : ℕ → Number) where
  reads-number : (e : ℕ) → IsNumber x e → entry_reading x look e ≡ read_number x look e
  unfolding entry_reading
  reads-number e i = rw ((number-decided x e).no i)

  reads-truth : (e : ℕ) → IsTruth x e → entry_reading x look e ≡ as_number (read_truth x look e)
  unfolding entry_reading
  reads-truth e i = rw (not-true (is_number x e) ((unless (number-decided x e)).no (λ n. omega arith)))

  module _ (n : ℕ) (known : List ℕ) (values : List ℤ) (settled : Settled x look n known values) where
    pub number-there : (e : ℕ) → e < n → IsNumber x e → number_from (get_or known e 0) (get_or values e (pos 0)) ≡ read_number x look e
    number-there e l i = rw (settled.flags e l, settled.contents e l, reads-number e i) (from-number (read_number x look e))

    pub truth-there : (e : ℕ) → e < n → IsTruth x e → truth_from (get_or known e 0) (get_or values e (pos 0)) ≡ read_truth x look e
    truth-there e l i = rw (settled.flags e l, settled.contents e l, reads-truth e i) (from-truth (read_truth x look e))

  -- Rows filled as far as n.
  pub filled : (n : ℕ) (known : List ℕ) (values : List ℤ) {k : List ℕ} {z : List ℤ} → k ≡ fill n (flag_at x look) known → z ≡ fill n (content_at x look) values
      → Settled x look n k z
  filled n known values p q = record {
    flags = λ e l. ap (λ (r : List ℕ). get_or r e 0) p ∙ get_or-filled 0 n (flag_at x look) known e l;
    contents = λ e l. ap (λ (r : List ℤ). get_or r e (pos 0)) q ∙ get_or-filled (pos 0) n (content_at x look) values e l;
  }

-- ---- one entry
module _ (x : Entries) (t : ℕ) (v : List ℤ) (ready : Ready x t v) (e : ℕ) where
  parts-lower : Lower x
  parts-lower = lower x ready.variables ready.formed.right

  number-parts : EachN (NumberPart x e) (TruthPart x e) (number_form x e)
  number-parts = each_number x ready.variables e (λ p h. h) (λ p h. h) (λ l. (ready.formed.right e l).form)

  truth-parts : EachT (NumberPart x e) (TruthPart x e) (truth_form x e)
  truth-parts = each-truth x ready.variables e (λ p h. h) (λ p h. h) (λ l. (ready.formed.right e l).form)

  module _ (known : List ℕ) (values : List ℤ) (settled : Settled x (look_in t v) e known values) where
    abbrev num : ℕ → Number
    num p = number_from (get_or known p 0) (get_or values p (pos 0))

    abbrev tru : ℕ → Truth
    tru p = truth_from (get_or known p 0) (get_or values p (pos 0))

    part-number : (p : ℕ) → NumberPart x e p → num p ≡ number_at (reading (look_in t v)) x e p
    unfolding read_number
    part-number p h = number-there x (look_in t v) e known values settled p h.0 h.1 ∙ sym (number-settled (reading (look_in t v)) x parts-lower e p h.0)

    part-truth : (p : ℕ) → TruthPart x e p → tru p ≡ truth_at (reading (look_in t v)) x e p
    unfolding read_truth
    part-truth p h = truth-there x (look_in t v) e known values settled p h.0 h.1 ∙ sym (truth-settled (reading (look_in t v)) x parts-lower e p h.0)

    -- f is the entry's form.
    pub number-from : {g : NumberForm} (f : NumberForm) → g ≡ number_form x e → g ≡ f → number_step (reading (look_in t v)) num tru f ≡ read_number x (look_in t v) e
    unfolding read_number number_at
    number-from f l k = rw (← k, l) (number_step_lem (reading (look_in t v)) (reading (look_in t v)) ◌≡◌ ◌≡◌ (equal (reading (look_in t v))) part-number part-truth (number_form x e) number-parts)

    pub truth-from : {g : TruthForm} (f : TruthForm) → g ≡ truth_form x e → g ≡ f → truth_step (reading (look_in t v)) num tru f ≡ read_truth x (look_in t v) e
    unfolding read_truth truth_at
    truth-from f l k = rw (← k, l) (truth-step (reading (look_in t v)) (reading (look_in t v)) ◌≡◌ ◌≡◌ (equal (reading (look_in t v))) part-number part-truth (truth_form x e) truth-parts)

    part_small : (p : ℕ) → NumberPart x e p → {a : Number} → a ≡ num p → Small a
    unfolding Bounded
    part_small p h l z q = bounded x t v ready e p z (sym (l ∙ part-number p h) ∙ q)

    pub parts-small : {g : NumberForm} (k : Arith) (p q : ℕ) → g ≡ number_form x e → g ≡ Binary k p q → {a b : Number} → a ≡ num p → b ≡ num q → Small a × Small b
    parts-small k p q l f m n = let h = rw (sym l ∙ f) at number-parts in (part_small p h.0 m, part_small q h.1 n)

-- ---- a state
module _ (x : Entries) (s : State) (grounded : Grounded x s) (known : List ℕ) (values : List ℤ) (settled : Settled x (look_in all_tracked s) x.count known values) where
  number_is : (e : ℕ) → IsNumber x e → (b : Bool) → pick b (Some (get_or values e (pos 0))) None ≡ read_number x (look_in all_tracked s) e → get_or values e (pos 0) ≡ number_in x s e
  number_is e i true h = number-known x s grounded e (get_or values e (pos 0)) (sym h)
  number_is e i false h = absurd (number-open x s grounded e i (sym h))

  -- Rows that are settled in a state have its numbers.
  pub state-row : StateRow x s values
  state-row = record {
    numbers = λ e i. number_is e i (eqb (get_or known e 0) 1) (number-there x (look_in all_tracked s) x.count known values settled e i.there i);
  }
