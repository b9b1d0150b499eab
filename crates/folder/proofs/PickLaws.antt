-- What holds of each of two, where it is picked, holds of the one that is; and a test that is asked only where two numbers are equal.
-- Assumes nothing.
use Prim.Native.Nat.{ℕ}
use mathlib.Core.Path.{◌≡◌, refl, sym, ◌∙◌}
use mathlib.Core.Bool.{Bool, true, false}
use borrow.Author.Tests.{eq-eqb, ne_eqb}
use lib.Dec.{eqb}
use Rattle.folder.specs.Pick.{pick, implies}

pub pick-by : {A : Type 0} (P : A → Type 0) (b : Bool) {x y : A} → (b ≡ true → P x) → (b ≡ false → P y) → P (pick b x y)
pick-by P true p q = p refl
pick-by P false p q = q refl

pub pick_all : {A : Type 0} (P : A → Type 0) (b : Bool) {x y : A} → P x → P y → P (pick b x y)
pick_all P b p q = pick-by P b (λ e. p) (λ e. q)

-- a is what the code has for k.
pub when-equal : (n : ℕ) (x : Bool) {a k : ℕ} {t : Bool} → a ≡ k → a ≡ n → t ≡ x → t ≡ implies (eqb k n) x
when-equal n x {k = k} p e q = rw (eq-eqb k n (sym p ∙ e)) q

pub when-unequal : (n : ℕ) (x : Bool) {a k : ℕ} → a ≡ k → (a ≡ n → ⊥) → true ≡ implies (eqb k n) x
when-unequal n x {k = k} p f = rw (ne_eqb k n (λ e. f (p ∙ e)))
