-- What reads known in a label is so in every state of the label.
-- Assumes nothing.
use Prim.Native.Nat.{ℕ, suc}
use mathlib.Core.Path.{◌≡◌, refl}
use mathlib.Core.Bool.{Bool, true, false, not, ◌&&◌, ◌||◌}
use lib.IntN.{ℤ}
use Rattle.folder.specs.Pick.{pick}
use Rattle.expressions.specs.Entries.{Entries}
use Rattle.expressions.specs.Operations.{arith_z, relates}
use Rattle.expressions.specs.Meaning.{State, value_of, joins, meaning, number_in, truth_in}
use Rattle.expressions.specs.Reading.{known_truth, arith_n, choose_n, compare_n, not_t, and_t, or_t, join_t, reading, read_number, read_truth, is_true}
use Rattle.expressions.specs.declared.Arith.{Arith}
use Rattle.expressions.specs.declared.Relation.{Relation}
use Rattle.expressions.specs.declared.Join.{Join}
use Rattle.expressions.specs.declared.Join.TheVariants.{And, Or}
use Rattle.expressions.specs.ThreeWay.{Number, Truth}
use Rattle.expressions.proofs.Related.{Related, number-related, truth-related}
use Rattle.std.specs.Prelude.{None, Some}

-- What a reading says of a number, and of a truth: nothing, or that it is the known one.
pub data Says : Number → ℤ → Type 0 where
  known : {z : ℤ} → Says (Some z) z
  open-number : {z : ℤ} → Says None z

pub data SaysT : Truth → Bool → Type 0 where
  known-true : SaysT (Some true) true
  known-false : SaysT (Some false) false
  open-truth : {b : Bool} → SaysT None b

-- ---- each operation

says-arith : (k : Arith) {a b : Number} {m n : ℤ} → Says a m → Says b n → Says (arith_n k a b) (arith_z k m n)
says-arith k known known = known
says-arith k known open-number = open-number
says-arith k open-number h = open-number

says-choose : {c : Truth} {t : Bool} {a b : Number} {m n : ℤ} → SaysT c t → Says a m → Says b n → Says (choose_n c a b) (pick t m n)
says-choose known-true known known = known
says-choose known-false known known = known
says-choose open-truth known known = open-number
says-choose c known open-number = open-number
says-choose c open-number h = open-number

says_truth : (b : Bool) → SaysT (known_truth b) b
says_truth true = known-true
says_truth false = known-false

says-compare : (k : Relation) {a b : Number} {m n : ℤ} → Says a m → Says b n → SaysT (compare_n k a b) (relates k m n)
says-compare k (known {z = a}) (known {z = b}) = says_truth (relates k a b)
says-compare k known open-number = open-truth
says-compare k open-number h = open-truth

says-not : {a : Truth} {t : Bool} → SaysT a t → SaysT (not_t a) (not t)
says-not known-true = known-false
says-not known-false = known-true
says-not open-truth = open-truth

says-and : {a b : Truth} {t u : Bool} → SaysT a t → SaysT b u → SaysT (and_t a b) (t && u)
says-and known-true h = h
says-and known-false h = known-false
says-and open-truth known-true = open-truth
says-and (open-truth {b = true}) known-false = known-false
says-and (open-truth {b = false}) known-false = known-false
says-and open-truth open-truth = open-truth

says-or : {a b : Truth} {t u : Bool} → SaysT a t → SaysT b u → SaysT (or_t a b) (t || u)
says-or known-true h = known-true
says-or known-false h = h
says-or (open-truth {b = true}) known-true = known-true
says-or (open-truth {b = false}) known-true = known-true
says-or open-truth known-false = open-truth
says-or open-truth open-truth = open-truth

says-join : (k : Join) {a b : Truth} {t u : Bool} → SaysT a t → SaysT b u → SaysT (join_t k a b) (joins k t u)
says-join And h l = says-and h l
says-join Or h l = says-or h l

-- ---- each entry

module _ (x : Entries) (look : ℕ → Number) (s : State) (agrees : (i : ℕ) → Says (look i) (value_of s i)) where
  says : Related (reading look) (meaning s) Says SaysT
  says = record {
    constant = λ z. known;
    variable = agrees;
    binary = says-arith;
    choose = says-choose;
    no_number = open-number;
    compare = says-compare;
    negate = says-not;
    join = says-join;
    always = known-true;
    no_truth = open-truth;
  }

  pub number-sound : (e : ℕ) → Says (read_number x look e) (number_in x s e)
  unfolding read_number
  number-sound e = number-related (reading look) (meaning s) Says SaysT says x (suc e) e

  pub truth-sound : (e : ℕ) → SaysT (read_truth x look e) (truth_in x s e)
  unfolding read_truth
  truth-sound e = truth-related (reading look) (meaning s) Says SaysT says x (suc e) e

-- ---- what is said, where it is known

pub known_is : {a : Number} {w : ℤ} (z : ℤ) → Says a w → a ≡ Some z → w ≡ z
known_is z known e = cc
known_is z open-number e = cc

pub true-is : {a : Truth} {b : Bool} → SaysT a b → a ≡ (Some true) → b ≡ true
true-is known-true e = refl
true-is known-false e = cc
true-is open-truth e = cc

pub false-is : {a : Truth} {b : Bool} → SaysT a b → a ≡ (Some false) → b ≡ false
false-is known-true e = cc
false-is known-false e = refl
false-is open-truth e = cc

pub is_true_lem : {a : Truth} {b : Bool} → SaysT a b → (a ≡ None → ⊥) → is_true a ≡ b
is_true_lem known-true h = refl
is_true_lem known-false h = refl
is_true_lem open-truth h = absurd (h refl)
