-- A row that has what lower entries mention gives what the next mentions; a row filled upward has all of them.
-- Assumes nothing.
use Prim.Native.Nat.{ℕ, suc, ◌^◌, ◌<◌, ◌≤◌, ◌*◌, ◌%◌}
use mathlib.Core.Path.{◌≡◌, refl, sym, ap, ◌∙◌}
use mathlib.Core.Bool.{Bool, true, false, not}
use mathlib.Core.List.{List}
use native.Mathlib.Nat.{mod-eq_of_lt, one-mul, pow-suc, pow-le-pow_right}
use native.Mathlib.Omega.{arith}
use borrow.Author.Tests.{lt-ltb, le-ltb}
use lib.Pow.{pow_pos}
use lib.ListN.{get_or}
use Rattle.folder.specs.Scan.{first_bad}
use Rattle.folder.specs.Tab.{fill}
use Rattle.folder.proofs.FillLaws.{get_or-filled}
use Rattle.expressions.specs.Limits.{most_variables, no_variable}
use Rattle.expressions.specs.Entries.{Entries, number_form, truth_form, is_number}
use Rattle.expressions.specs.Levels.{number_step, truth_step, number_at, truth_at, number, truth}
use Rattle.expressions.specs.Mentions.{union, mentioning, mentions, is_free, missing}
use Rattle.expressions.specs.Parts.{Lower}
use Rattle.expressions.specs.Right.{NumberPart, TruthPart, NumberRight}
use Rattle.expressions.specs.declared.NumberForm.{NumberForm}
use Rattle.expressions.specs.declared.NumberForm.TheVariants.{Variable}
use Rattle.expressions.specs.declared.TruthForm.{TruthForm}
use Rattle.expressions.proofs.Decided.{number-decided}
use Rattle.expressions.proofs.Forms.{no_number, number-right}
use Rattle.expressions.proofs.Levels.{equal, each_number, each-truth, lower, number-settled, truth-settled}
use Rattle.expressions.proofs.Mentions.{number-mentions, truth-mentions}
use Rattle.expressions.proofs.Related.{number_step_lem, truth-step}
use Rattle.mentions.specs.Masked.{Written, Masked}

-- The set of one variable fits 16 bits.
below-width : (w i : ℕ) → i < w → 2 ^ i < 2 ^ w
below-width w i h =
    let a : 2 ^ suc i ≤ 2 ^ w = pow-le-pow_right {n = 2} (omega arith) h in
    let b : 2 ^ suc i ≡ 2 ^ i * 2 = pow-suc 2 i in
    let p : 0 < 2 ^ i = pow_pos i in
    omega arith

pub one-bit : (i : ℕ) → i < most_variables → 1 * 2 ^ i % 2 ^ 16 ≡ 2 ^ i
one-bit i h = rw (one-mul (2 ^ i)) (mod-eq_of_lt (below-width 16 i h))

-- The lowest variable that is missing, from a scan for it.
module _ (n m t : ℕ) {v : ℕ} (e : v ≡ first_bad (λ i. not (is_free m t i)) n) where
  pub first-free : v < n → v ≡ missing n m t
  unfolding missing
  first-free l = rw (← e, lt-ltb v n l) refl

  pub none_free : n ≤ v → no_variable ≡ missing n m t
  unfolding missing
  none_free l = rw (← e, le-ltb v n l) refl

module _ (x : Entries) (w : Written x) (e : ℕ) where
  -- The variable of an entry fits a set.
  pub variable-small : {g : NumberForm} (i : ℕ) → g ≡ number_form x e → g ≡ Variable i → i < most_variables
  variable-small i l k = go (is_number x e) refl
    where
      go : (b : Bool) → is_number x e ≡ b → i < most_variables
      go true q =
          let n = (number-decided x e).yes q in
          let r : NumberRight x w.variables e (Variable i) = rw (sym l ∙ k) at (number-right x e w.variables (w.right e n.there).form n) in
          omega (arith, r.0, w.few)
      go false q = absurd (let z : ◌≡◌ {A = ℕ} 0 1 = cc (no_number x e q) in omega arith)

  module _ (masks : List ℕ) (h : Masked x e masks) where
    parts-lower : Lower x
    parts-lower = lower x w.variables w.right

    abbrev have : ℕ → ℕ
    have p = get_or masks p 0

    part-number : (p : ℕ) → NumberPart x e p → have p ≡ number_at mentioning x e p
    part-number p k = h.is p k.0 ∙ number-mentions x p k.1 ∙ sym (number-settled mentioning x parts-lower e p k.0)

    part-truth : (p : ℕ) → TruthPart x e p → have p ≡ truth_at mentioning x e p
    part-truth p k = h.is p k.0 ∙ truth-mentions x p k.1 ∙ sym (truth-settled mentioning x parts-lower e p k.0)

    -- f is the entry's form.
    pub number-from : {g : NumberForm} (f : NumberForm) → g ≡ number_form x e → g ≡ f → number_step mentioning have have f ≡ number mentioning x e
    unfolding number_at
    number-from f l k =
        rw (← k, l) (number_step_lem mentioning mentioning ◌≡◌ ◌≡◌ (equal mentioning) part-number part-truth (number_form x e)
        (each_number x w.variables e (λ p q. q) (λ p q. q) (λ q. (w.right e q).form)))

    pub truth-from : {g : TruthForm} (f : TruthForm) → g ≡ truth_form x e → g ≡ f → truth_step mentioning have have f ≡ truth mentioning x e
    unfolding truth_at
    truth-from f l k =
        rw (← k, l) (truth-step mentioning mentioning ◌≡◌ ◌≡◌ (equal mentioning) part-number part-truth (truth_form x e)
        (each-truth x w.variables e (λ p q. q) (λ p q. q) (λ q. (w.right e q).form)))

-- A row filled as far as n.
pub masked : (x : Entries) (n : ℕ) (row₀ : List ℕ) {row : List ℕ} → row ≡ fill n (mentions x) row₀ → Masked x n row
masked x n row₀ p = record { is = λ e l. ap (λ (r : List ℕ). get_or r e 0) p ∙ get_or-filled 0 n (mentions x) row₀ e l }

-- Both sorts together.
pub both-sorts : (x : Entries) (e : ℕ) {a b : ℕ} → a ≡ number mentioning x e → b ≡ truth mentioning x e → union a b ≡ mentions x e
unfolding mentions
both-sorts x e p q = rw (p, q) refl
