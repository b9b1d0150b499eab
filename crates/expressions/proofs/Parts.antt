-- What holds of every entry holds of each part.
-- Assumes nothing.
use Prim.Native.Nat.{ℕ}
use Rattle.expressions.specs.Parts.{EachN, EachT}
use Rattle.expressions.specs.declared.NumberForm.{NumberForm}
use Rattle.expressions.specs.declared.NumberForm.TheVariants.{Constant, Variable, Binary, If, NoNumber}
use Rattle.expressions.specs.declared.TruthForm.{TruthForm}
use Rattle.expressions.specs.declared.TruthForm.TheVariants.{Compare, Not, Joined, Always, NoTruth}

module _ {A B : ℕ → Type 0} (a : (p : ℕ) → A p) (b : (p : ℕ) → B p) where
  pub all-number : (f : NumberForm) → EachN A B f
  all-number (Constant z) = tt
  all-number (Variable i) = tt
  all-number (Binary k p q) = (a p, a q)
  all-number (If c p q) = (b c, a p, a q)
  all-number NoNumber = tt

  pub all-truth : (f : TruthForm) → EachT A B f
  all-truth (Compare k p q) = (a p, a q)
  all-truth (Not p) = b p
  all-truth (Joined k p q) = (b p, b q)
  all-truth Always = tt
  all-truth NoTruth = tt

-- What follows from it holds of each part too.
module _ {A B A' B' : ℕ → Type 0} (a : (p : ℕ) → A p → A' p) (b : (p : ℕ) → B p → B' p) where
  pub map-number : (f : NumberForm) → EachN A B f → EachN A' B' f
  map-number (Constant z) h = tt
  map-number (Variable i) h = tt
  map-number (Binary k p q) h = (a p h.0, a q h.1)
  map-number (If c p q) h = (b c h.0, a p h.1, a q h.2)
  map-number NoNumber h = tt

  pub map-truth : (f : TruthForm) → EachT A B f → EachT A' B' f
  map-truth (Compare k p q) h = (a p h.0, a q h.1)
  map-truth (Not p) h = b p h
  map-truth (Joined k p q) h = (b p h.0, b q h.1)
  map-truth Always h = tt
  map-truth NoTruth h = tt

-- Two facts of each part.
module _ (A B A' B' : ℕ → Type 0) where
  pub both-number : (f : NumberForm) → EachN A B f → EachN A' B' f → EachN (λ p. A p × A' p) (λ p. B p × B' p) f
  both-number (Constant z) h l = tt
  both-number (Variable i) h l = tt
  both-number (Binary k p q) h l = ((h.0, l.0), (h.1, l.1))
  both-number (If c p q) h l = ((h.0, l.0), (h.1, l.1), (h.2, l.2))
  both-number NoNumber h l = tt

  pub both-truth : (f : TruthForm) → EachT A B f → EachT A' B' f → EachT (λ p. A p × A' p) (λ p. B p × B' p) f
  both-truth (Compare k p q) h l = ((h.0, l.0), (h.1, l.1))
  both-truth (Not p) h l = (h, l)
  both-truth (Joined k p q) h l = ((h.0, l.0), (h.1, l.1))
  both-truth Always h l = tt
  both-truth NoTruth h l = tt
