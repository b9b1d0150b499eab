-- A test decides a rule: it passes if and only if the rule holds. One law for each connective.
-- Assumes nothing.
use Prim.Native.Nat.{ℕ, suc, ◌≤◌, ◌<◌}
use mathlib.Core.Path.{◌≡◌, refl, sym, ◌∙◌}
use mathlib.Core.Bool.{Bool, true, false, not, ◌&&◌, ◌||◌, false≢true}
use mathlib.Core.Logic.{◌⊎◌, inl, inr, ⊎_elim}
use mathlib.Core.List.{List, [], ◌∷◌}
use native.Mathlib.Nat.{eq-or-lt_of_le, le_of_suc-le-suc}
use native.Mathlib.Omega.{arith}
use borrow.Author.Tests.{ltb-true, leb-true, eqb-true, lt-ltb, le-leb, eq-eqb}
use lib.Dec.{T, ltb, leb, eqb}
use lib.IntN.{ℤ}
use lib.Signed.{le_z, ◌≤ℤ◌}
use Rattle.folder.specs.Pick.{pick, implies}
use Rattle.folder.specs.Scan.{all}
use Rattle.folder.specs.Tab.{same_list}
use Rattle.folder.proofs.ScanLaws.{all_true, all_of}

pub record Decides (P : Type 0) (b : Bool) : Type 0 where
  pub yes : b ≡ true → P
  pub no : P → b ≡ true

pub passes : (b : Bool) → Decides (b ≡ true) b
passes b = record { yes = λ e. e; no = λ e. e }

fails_by : (b : Bool) → (b ≡ false → not b ≡ true) × (not b ≡ true → b ≡ false)
fails_by true = ((λ e. absurd (false≢true (sym e))), λ e. absurd (false≢true e))
fails_by false = ((λ e. refl), λ e. refl)

pub fails : (b : Bool) → Decides (b ≡ false) (not b)
fails b = record { yes = (fails_by b).1; no = (fails_by b).0 }

pub at_most : (a b : ℕ) → Decides (a ≤ b) (leb a b)
at_most a b = record { yes = leb-true a b; no = le-leb a b }

pub below : (a b : ℕ) → Decides (a < b) (ltb a b)
below a b = record { yes = ltb-true a b; no = lt-ltb a b }

pub same : (a b : ℕ) → Decides (a ≡ b) (eqb a b)
same a b = record { yes = eqb-true a b; no = eq-eqb a b }

T-is : (b : Bool) → T b → b ≡ true
T-is true t = refl
T-is false t = absurd t

is_T : (b : Bool) → b ≡ true → T b
is_T true e = tt
is_T false e = absurd (false≢true e)

pub at_most_z : (a b : ℤ) → Decides (a ≤ℤ b) (le_z a b)
at_most_z a b = record { yes = λ e. record { le = is_T (le_z a b) e }; no = λ h. T-is (le_z a b) h.le }

pub and_both : (a b : Bool) → (a && b) ≡ true → (a ≡ true) × (b ≡ true)
and_both true b e = (refl, e)
and_both false b e = absurd (false≢true e)

pub both-and : (a b : Bool) → a ≡ true → b ≡ true → (a && b) ≡ true
both-and true b p q = q
both-and false b p q = p

-- Where both fail together and the first passes, the second fails.
pub second-fails : (a b : Bool) → a ≡ true → (a && b) ≡ false → b ≡ false
second-fails true b p e = e
second-fails false b p e = absurd (false≢true p)

infixr 20 ◌∧also◌
pub ◌∧also◌ : {P Q : Type 0} {a b : Bool} → Decides P a → Decides Q b → Decides (P × Q) (a && b)
◌∧also◌ {a = a} {b = b} p q =
    record { yes = λ e. let h = and_both a b e in (p.yes h.0, q.yes h.1); no = λ h. both-and a b (p.no h.0) (q.no h.1) }

implies-by : (a b : Bool) → implies a b ≡ true → a ≡ true → b ≡ true
implies-by true b e h = e
implies-by false b e h = absurd (false≢true h)

by-implies : (a b : Bool) → (a ≡ true → b ≡ true) → implies a b ≡ true
by-implies true b f = f refl
by-implies false b f = refl

-- An implication fails where its first test passes and its second fails.
pub implies-fails : (a b : Bool) → implies a b ≡ false → (a ≡ true) × (b ≡ false)
implies-fails true b e = (refl, e)
implies-fails false b e = absurd (false≢true (sym e))

pub whenever : {P Q : Type 0} {a b : Bool} → Decides P a → Decides Q b → Decides (P → Q) (implies a b)
whenever {a = a} {b = b} p q = record { yes = λ e h. q.yes (implies-by a b e (p.no h)); no = λ f. by-implies a b (λ h. q.no (f (p.yes h))) }

pub everywhere : (n : ℕ) {P : ℕ → Type 0} {ok : ℕ → Bool} → ((k : ℕ) → k < n → Decides (P k) (ok k)) → Decides ((k : ℕ) → k < n → P k) (all ok n)
everywhere n {ok = ok} d = record {
  yes = λ e k l. (d k l).yes (all_true ok n e k l);
  no = λ f. all_of ok n (λ k l. (d k l).no (f k l));
}

or-by : (a b : Bool) → (a || b) ≡ true → (a ≡ true) ⊎ (b ≡ true)
or-by true b e = inl refl
or-by false b e = inr e

by_left : (a b : Bool) → a ≡ true → (a || b) ≡ true
by_left true b e = refl
by_left false b e = absurd (false≢true e)

by_right : (a b : Bool) → b ≡ true → (a || b) ≡ true
by_right true b e = refl
by_right false b e = e

infixr 15 ◌∨else◌
pub ◌∨else◌ : {P Q : Type 0} {a b : Bool} → Decides P a → Decides Q b → Decides (P ⊎ Q) (a || b)
◌∨else◌ {a = a} {b = b} p q = record {
  yes = λ e. ⊎_elim (λ h. inl (p.yes h)) (λ h. inr (q.yes h)) (or-by a b e);
  no = λ h. ⊎_elim (λ x. by_left a b (p.no x)) (λ y. by_right a b (q.no y)) h;
}

either-by : {P A B : Type 0} (t : Bool) {a b : Bool} → Decides P t → Decides A a → Decides B b → Decides ((P → A) × ((P → ⊥) → B)) (pick t a b)
either-by true p x y = record { yes = λ e. ((λ h. x.yes e), λ h. absurd (h (p.yes refl))); no = λ h. x.no (h.0 (p.yes refl)) }
either-by false p x y =
    record { yes = λ e. ((λ h. absurd (false≢true (p.no h))), λ h. y.yes e); no = λ h. y.no (h.1 (λ q. false≢true (p.no q))) }

-- One of two tests, by a third.
pub either_way : {P A B : Type 0} {t a b : Bool} → Decides P t → Decides A a → Decides B b → Decides ((P → A) × ((P → ⊥) → B)) (pick t a b)
either_way {t = t} = either-by t

-- A test that always passes, one that never does, and one whose failure is asked.
pub always : Decides (Unit {0}) true
always = record { yes = λ e. tt; no = λ h. refl }

pub never : Decides ⊥ false
never = record { yes = λ e. false≢true e; no = λ h. absurd h }

pub unless : {P : Type 0} {b : Bool} → Decides P b → Decides (P → ⊥) (not b)
unless {P} {b} d = record {
  yes = λ e h. false≢true (sym ((fails_by b).1 e) ∙ d.no h);
  no = λ f. go b refl f;
}
  where
    go : (t : Bool) → b ≡ t → (P → ⊥) → not b ≡ true
    go true e f = absurd (f (d.yes e))
    go false e f = rw e refl

-- A rule put in other words.
pub reworded : {P Q : Type 0} {b : Bool} → (P → Q) → (Q → P) → Decides P b → Decides Q b
reworded f g d = record { yes = λ e. f (d.yes e); no = λ q. d.no (g q) }

pub same_lists : (x y : List ℕ) → Decides (x ≡ y) (same_list x y)
unfolding same_list
same_lists [] [] = record { yes = λ e. refl; no = λ e. refl }
same_lists [] (y ∷ ys) = record { yes = λ e. absurd (false≢true e); no = λ e. cc }
same_lists (x ∷ xs) [] = record { yes = λ e. absurd (false≢true e); no = λ e. cc }
same_lists (x ∷ xs) (y ∷ ys) = reworded (λ h i. h.0 i ∷ h.1 i) (λ e. (cc, cc)) (same x y ∧also same_lists xs ys)

-- Two tests that decide one rule are equal.
pub same_test : {P : Type 0} {a b : Bool} → Decides P a → Decides P b → a ≡ b
same_test {a = a} {b = b} p q = go a b (λ e. q.no (p.yes e)) (λ e. p.no (q.yes e))
  where
    go : (a b : Bool) → (a ≡ true → b ≡ true) → (b ≡ true → a ≡ true) → a ≡ b
    go true b f g = sym (f refl)
    go false true f g = g refl
    go false false f g = refl

-- Scans whose tests agree; and a scan with two tests.
pub all_same : {a b : ℕ → Bool} (n : ℕ) → ((k : ℕ) → k < n → a k ≡ b k) → all a n ≡ all b n
all_same {a} {b} n h = same_test (everywhere n (λ k l. passes (a k))) (everywhere n (λ k l. reworded (λ e. h k l ∙ e) (λ e. sym (h k l) ∙ e) (passes (b k))))

pub all_both : (n : ℕ) (a b : ℕ → Bool) → all (λ k. a k && b k) n ≡ (all a n && all b n)
all_both n a b = same_test
    (reworded (λ h. ((λ k l. (h k l).0), λ k l. (h k l).1)) (λ h k l. (h.0 k l, h.1 k l)) (everywhere n (λ k l. passes (a k) ∧also passes (b k))))
    (everywhere n (λ k l. passes (a k)) ∧also everywhere n (λ k l. passes (b k)))

pub all-suc : (ok : ℕ → Bool) (n : ℕ) → all ok (suc n) ≡ (all ok n && ok n)
all-suc ok n =
    same_test
    (everywhere (suc n) (λ k l. passes (ok k)))
    (reworded
    (λ h k l. ⊎_elim (λ (e : k ≡ n). rw e h.1) (λ m. h.0 k m) (eq-or-lt_of_le (le_of_suc-le-suc l)))
    (λ h. ((λ k l. h k (omega arith)), h n (omega arith)))
    (everywhere n (λ k l. passes (ok k)) ∧also passes (ok n)))
