-- Labels that say the same of the tracked variables read alike; and what reads known stays known, with its value, when a
-- label tracks more.
-- Assumes nothing.
use Prim.Native.Nat.{ℕ, zero, suc, ◌<◌, ◌≤◌}
use mathlib.Core.Path.{◌≡◌, refl, sym, ap, ◌∙◌}
use mathlib.Core.Bool.{Bool, true, false, not, ◌&&◌, false≢true}
use mathlib.Core.List.{List}
use native.Mathlib.Nat.{le_refl, mul-le-mul}
use native.Mathlib.Decide.{dec_le}
use native.Mathlib.Omega.{arith}
use borrow.Author.Tests.{lt-leb}
use lib.Dec.{leb}
use lib.ListN.{get_or}
use lib.IntN.{ℤ, pos, ◌+ℤ◌}
use Rattle.folder.specs.Pick.{pick}
use Rattle.folder.specs.Scan.{all}
use Rattle.folder.specs.Tab.{tab}
use Rattle.whole.specs.Order.{eq_z}
use Rattle.expressions.specs.Limits.{most_combinations}
use Rattle.expressions.specs.Entries.{Entries}
use Rattle.expressions.specs.Meaning.{State, number_in, truth_in}
use Rattle.expressions.specs.Reading.{known_truth, arith_n, chosen, choose_n, compare_n, not_t, and_t, or_t, join_t, has_bit, look_in, reading, read_number, read_truth}
use Rattle.expressions.specs.Mentions.{mentions}
use Rattle.expressions.specs.Combinations.{Label, Holds, Proper, product_of, choices, width_of, combinations, digit, value_in, combination}
use Rattle.expressions.specs.States.{ways, same_truth, number_by_all, truth_by_all, number_three, truth_three, number_read, truth_read}
use Rattle.expressions.specs.declared.Range.{Range}
use Rattle.expressions.specs.declared.Arith.{Arith}
use Rattle.expressions.specs.declared.Relation.{Relation}
use Rattle.expressions.specs.declared.Join.{Join}
use Rattle.expressions.specs.declared.Join.TheVariants.{And, Or}
use Rattle.expressions.specs.ThreeWay.{Number, Truth}
use Rattle.expressions.proofs.Related.{Related, number-related, truth-related}
use Rattle.expressions.proofs.Sound.{known_is}
use Rattle.expressions.proofs.Missing.{never-known}
use Rattle.expressions.proofs.States.{says-number, says_truth, number-complete, truth-complete, number-stays, truth-stays, said}
use Rattle.std.specs.Prelude.{None, Some}

-- ---- the same of what is tracked

module _ (x : Entries) (n : ℕ) (bound : ℕ → Range) (t : ℕ) (v w : List ℤ) (same : (i : ℕ) → has_bit t i ≡ true → get_or v i (pos 0) ≡ get_or w i (pos 0)) where
  abbrev L : Label
  L = record { variables = n; bound = bound; tracked = t; values = v }

  abbrev L' : Label
  L' = record { variables = n; bound = bound; tracked = t; values = w }

  picks : {A : Type 0} (f : ℤ → A) (y : A) (i : ℕ) → pick (has_bit t i) (f (get_or v i (pos 0))) y ≡ pick (has_bit t i) (f (get_or w i (pos 0))) y
  picks f y i = go (has_bit t i) refl
    where
      go : (b : Bool) → has_bit t i ≡ b → pick b (f (get_or v i (pos 0))) y ≡ pick b (f (get_or w i (pos 0))) y
      go true e = ap f (same i e)
      go false e = refl

  look-same : look_in t v ≡ look_in t w
  unfolding look_in
  look-same = λ j i. picks Some None i j

  combination-same : (m k : ℕ) → combination L m k ≡ combination L' m k
  unfolding combination value_in
  combination-same m k = λ j. tab n (λ i. picks (λ (z : ℤ). z) ((bound i).low +ℤ pos (digit L m k i)) i j)

  module _ (e : ℕ) where
    abbrev count : ℕ
    count = combinations n bound t (mentions x e)

    abbrev few : Bool
    few = leb count most_combinations

    pub number_same : number_read x L e ≡ number_read x L' e
    unfolding number_read number_by_all
    number_same j =
        let at : ℕ → ℤ = λ k. number_in x (combination-same (mentions x e) k j) e in
        pick few (pick (all (λ k. eq_z (at k) (at 0)) count) (Some (at 0)) None) (read_number x (look-same j) e)

    pub truth-same : truth_read x L e ≡ truth_read x L' e
    unfolding truth_read truth_by_all
    truth-same j =
        let at : ℕ → Bool = λ k. truth_in x (combination-same (mentions x e) k j) e in
        pick few (pick (all (λ k. same_truth (at k) (at 0)) count) (known_truth (at 0)) None) (read_truth x (look-same j) e)

-- ---- more is tracked: the three-way reading

-- What is known stays.
data Grows : Number → Number → Type 0 where
  known : {z : ℤ} → Grows (Some z) (Some z)
  open-number : {a : Number} → Grows None a

data GrowsT : Truth → Truth → Type 0 where
  known-truth : {a : Truth} → GrowsT a a
  open-truth : {a : Truth} → GrowsT None a

grows-arith : (k : Arith) {a b a' b' : Number} → Grows a a' → Grows b b' → Grows (arith_n k a b) (arith_n k a' b')
grows-arith k known known = known
grows-arith k known open-number = open-number
grows-arith k open-number h = open-number

grows_same : (a : Number) → Grows a a
grows_same (Some z) = known
grows_same None = open-number

grows-choose : {c c' : Truth} {a b a' b' : Number} → GrowsT c c' → Grows a a' → Grows b b' → Grows (choose_n c a b) (choose_n c' a' b')
grows-choose (known-truth {a = c}) (known {z = m}) (known {z = n}) = grows_same (chosen c m n)
grows-choose open-truth known known = open-number
grows-choose c known open-number = open-number
grows-choose c open-number h = open-number

grows-compare : (k : Relation) {a b a' b' : Number} → Grows a a' → Grows b b' → GrowsT (compare_n k a b) (compare_n k a' b')
grows-compare k known known = known-truth
grows-compare k known open-number = open-truth
grows-compare k open-number h = open-truth

grows-not : {a a' : Truth} → GrowsT a a' → GrowsT (not_t a) (not_t a')
grows-not known-truth = known-truth
grows-not open-truth = open-truth

false-and : (a : Truth) → and_t a (Some false) ≡ (Some false)
false-and (Some true) = refl
false-and (Some false) = refl
false-and None = refl

grows-and : {a b a' b' : Truth} → GrowsT a a' → GrowsT b b' → GrowsT (and_t a b) (and_t a' b')
grows-and known-truth known-truth = known-truth
grows-and (known-truth {a = (Some true)}) open-truth = open-truth
grows-and (known-truth {a = (Some false)}) open-truth = known-truth
grows-and (known-truth {a = None}) open-truth = open-truth
grows-and open-truth (known-truth {a = (Some true)}) = open-truth
grows-and (open-truth {a = a}) (known-truth {a = (Some false)}) = rw (false-and a) known-truth
grows-and open-truth (known-truth {a = None}) = open-truth
grows-and open-truth open-truth = open-truth

true-or : (a : Truth) → or_t a (Some true) ≡ (Some true)
true-or (Some true) = refl
true-or (Some false) = refl
true-or None = refl

grows-or : {a b a' b' : Truth} → GrowsT a a' → GrowsT b b' → GrowsT (or_t a b) (or_t a' b')
grows-or known-truth known-truth = known-truth
grows-or (known-truth {a = (Some true)}) open-truth = known-truth
grows-or (known-truth {a = (Some false)}) open-truth = open-truth
grows-or (known-truth {a = None}) open-truth = open-truth
grows-or (open-truth {a = a}) (known-truth {a = (Some true)}) = rw (true-or a) known-truth
grows-or open-truth (known-truth {a = (Some false)}) = open-truth
grows-or open-truth (known-truth {a = None}) = open-truth
grows-or open-truth open-truth = open-truth

grows-join : (k : Join) {a b a' b' : Truth} → GrowsT a a' → GrowsT b b' → GrowsT (join_t k a b) (join_t k a' b')
grows-join And h l = grows-and h l
grows-join Or h l = grows-or h l

still-number : {a b : Number} (z : ℤ) → Grows a b → a ≡ Some z → b ≡ Some z
still-number z known e = e
still-number z open-number e = absurd (let k : ◌≡◌ {A = ℕ} 0 1 = cc in omega arith)

still-truth : {a b : Truth} (c : Bool) → GrowsT a b → a ≡ known_truth c → b ≡ known_truth c
still-truth c known-truth e = e
still-truth c open-truth e = absurd (never-known c e)

-- ---- the reading by all states

width_some : (r : Range) → 1 ≤ width_of r
unfolding width_of
width_some r = omega arith

module _ (x : Entries) (L : Label) (e : ℕ) (many : most_combinations < ways x L e) where
  number-many : number_read x L e ≡ number_three x L e
  unfolding number_read
  number-many = rw (lt-leb (ways x L e) most_combinations many) refl

  truth-many : truth_read x L e ≡ truth_three x L e
  unfolding truth_read
  truth-many = rw (lt-leb (ways x L e) most_combinations many) refl

module _ (x : Entries) (n : ℕ) (bound : ℕ → Range) (t u : ℕ) (s : List ℤ) (more : (i : ℕ) → has_bit t i ≡ true → has_bit u i ≡ true) where
  abbrev T : Label
  T = record { variables = n; bound = bound; tracked = t; values = s }

  abbrev U : Label
  U = record { variables = n; bound = bound; tracked = u; values = s }

  look-grows : (i : ℕ) → Grows (look_in t s i) (look_in u s i)
  unfolding look_in
  look-grows i = go (has_bit t i) refl
    where
      go : (b : Bool) → has_bit t i ≡ b → Grows (pick b (Some (get_or s i (pos 0))) None) (pick (has_bit u i) (Some (get_or s i (pos 0))) None)
      go true e = rw (more i e) known
      go false e = open-number

  grows : Related (reading (look_in t s)) (reading (look_in u s)) Grows GrowsT
  grows = record {
    constant = λ z. known;
    variable = look-grows;
    binary = grows-arith;
    choose = grows-choose;
    no_number = open-number;
    compare = grows-compare;
    negate = grows-not;
    join = grows-join;
    always = known-truth;
    no_truth = open-truth;
  }

  holds-fewer : (r : State) → Holds U r → Holds T r
  holds-fewer r h = record { long = h.long; low = h.low; high = h.high; agrees = λ v l b. h.agrees v l (more v b) }

  module _ (e : ℕ) where
    number-three : (z : ℤ) → number_three x T e ≡ Some z → number_three x U e ≡ Some z
    unfolding read_number
    number-three z h = still-number z (number-related (reading (look_in t s)) (reading (look_in u s)) Grows GrowsT grows x (suc e) e) h

    truth-three : (c : Bool) → truth_three x T e ≡ known_truth c → truth_three x U e ≡ known_truth c
    unfolding read_truth
    truth-three c h = still-truth c (truth-related (reading (look_in t s)) (reading (look_in u s)) Grows GrowsT grows x (suc e) e) h

    -- No more combinations.
    fewer-choices : (v : ℕ) → choices bound u (mentions x e) v ≤ choices bound t (mentions x e) v
    unfolding choices
    fewer-choices v = go (has_bit (mentions x e) v) (has_bit t v) (has_bit u v) (more v)
      where
        go : (m b c : Bool) → (b ≡ true → c ≡ true) → pick (m && not c) (width_of (bound v)) 1 ≤ pick (m && not b) (width_of (bound v)) 1
        go false b c h = le_refl 1
        go true true true h = le_refl 1
        go true true false h = absurd (false≢true (h refl))
        go true false true h = width_some (bound v)
        go true false false h = le_refl (width_of (bound v))

    fewer-product : (f g : ℕ → ℕ) → ((v : ℕ) → f v ≤ g v) → (k : ℕ) → product_of k f ≤ product_of k g
    unfolding product_of
    fewer-product f g h zero = le_refl 1
    fewer-product f g h (suc k) = mul-le-mul (fewer-product f g h k) (h k)

    fewer-ways : ways x U e ≤ ways x T e
    unfolding combinations
    fewer-ways = fewer-product (choices bound u (mentions x e)) (choices bound t (mentions x e)) fewer-choices n

    module _ (P : Proper T) (Q : Proper U) where
      pub number-grows : (z : ℤ) → number_read x T e ≡ Some z → number_read x U e ≡ Some z
      number-grows z h = go (dec_le (ways x U e) most_combinations)
        where
          go : Dec (ways x U e ≤ most_combinations) → number_read x U e ≡ Some z
          go (yes l) = (number-complete x U Q e l z).1 (λ r k. known_is z (says-number x T P e r (holds-fewer r k)) h)
          go (no d) = number-stays x U Q e z (number-three z (sym (number-many x T e (omega (arith, fewer-ways))) ∙ h))

      pub truth-grows : (c : Bool) → truth_read x T e ≡ known_truth c → truth_read x U e ≡ known_truth c
      truth-grows c h = go (dec_le (ways x U e) most_combinations)
        where
          go : Dec (ways x U e ≤ most_combinations) → truth_read x U e ≡ known_truth c
          go (yes l) = (truth-complete x U Q e l c).1 (λ r k. said c (says_truth x T P e r (holds-fewer r k)) h)
          go (no d) = truth-stays x U Q e c (truth-three c (sym (truth-many x T e (omega (arith, fewer-ways))) ∙ h))
