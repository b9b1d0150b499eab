-- A number lies in its range in every state whose variables lie in theirs.
-- Assumes nothing.
use Prim.Native.Nat.{ℕ, suc, ◌<◌, ◌≤◌}
use mathlib.Core.Path.{◌≡◌, refl}
use mathlib.Core.Bool.{Bool}
use mathlib.Core.List.{List}
use native.Mathlib.Decide.{dec_lt}
use native.Mathlib.Omega.{arith}
use borrow.Author.Tests.{lt-ltb, le-ltb}
use lib.ListN.{length, get_or-eq_default}
use lib.IntN.{ℤ, pos, ◌*ℤ◌}
use lib.Signed.{◌≤ℤ◌}
use Rattle.folder.specs.Pick.{pick}
use Rattle.folder.specs.Contents.{count_of, signed_field}
use Rattle.folder.proofs.PickLaws.{pick_all}
use Rattle.expressions.specs.Entries.{Entries}
use Rattle.whole.specs.Order.{min_z, max_z}
use Rattle.expressions.specs.Operations.{arith_z}
use Rattle.expressions.specs.Meaning.{State, value_of, meaning, number_in}
use Rattle.expressions.specs.Ranges.{span, least, greatest, product, arith_r, hull, bound_of, bound_in, ranging, range_of}
use Rattle.expressions.specs.Right.{Inside}
use Rattle.expressions.specs.declared.Arith.{Arith}
use Rattle.expressions.specs.declared.Arith.TheVariants.{Add, Subtract, Multiply, Smaller, Larger}
use Rattle.expressions.specs.declared.Range.{Range}
use Rattle.whole.proofs.Order.{◌⊑◌, to-⊑, from-⊑, ⊑_refl, ⊑_trans, add-mono, sub-mono, min-le-l, min-le-r, le-max-l, le-max-r, min-mono, max-mono, mul-above, mul-below, mul-above-r, mul-below-r}
use Rattle.expressions.proofs.Related.{Any, any, Related, number-related}

-- z lies in r.
pub record In (r : Range) (z : ℤ) : Type 0 where
  pub low : r.low ≤ℤ z
  pub high : z ≤ℤ r.high

-- The same in the order that has the laws.
from_low : {r : Range} {z : ℤ} → In r z → r.low ⊑ z
from_low h = to-⊑ h.low

to_high : {r : Range} {z : ℤ} → In r z → z ⊑ r.high
to_high h = to-⊑ h.high

between : (r : Range) {z : ℤ} → r.low ⊑ z → z ⊑ r.high → In r z
between r l h = record { low = from-⊑ l; high = from-⊑ h }

pub in-inside : {r q : Range} {z : ℤ} → In r z → Inside r q → In q z
in-inside {q = q} h i = between q (⊑_trans (to-⊑ i.low) (from_low h)) (⊑_trans (to_high h) (to-⊑ i.high))

-- ---- each operation

least-is : (a b c d : ℤ) → (least a b c d ⊑ a) × (least a b c d ⊑ b) × (least a b c d ⊑ c) × (least a b c d ⊑ d)
least-is a b c d =
    let l = min-le-l (min_z a b) (min_z c d) in
    let r = min-le-r (min_z a b) (min_z c d) in
    (⊑_trans l (min-le-l a b), ⊑_trans l (min-le-r a b), ⊑_trans r (min-le-l c d), ⊑_trans r (min-le-r c d))

greatest-is : (a b c d : ℤ) → (a ⊑ greatest a b c d) × (b ⊑ greatest a b c d) × (c ⊑ greatest a b c d) × (d ⊑ greatest a b c d)
greatest-is a b c d =
    let l = le-max-l (max_z a b) (max_z c d) in
    let r = le-max-r (max_z a b) (max_z c d) in
    (⊑_trans (le-max-l a b) l, ⊑_trans (le-max-r a b) l, ⊑_trans (le-max-l c d) r, ⊑_trans (le-max-r c d) r)

in-product : (r q : Range) (a b : ℤ) → In r a → In q b → In (product r q) (a *ℤ b)
in-product r q a b h l =
    let g = least-is (r.low *ℤ q.low) (r.low *ℤ q.high) (r.high *ℤ q.low) (r.high *ℤ q.high) in
    let k = greatest-is (r.low *ℤ q.low) (r.low *ℤ q.high) (r.high *ℤ q.low) (r.high *ℤ q.high) in
    between (product r q)
    (mul-above _ r.low a r.high b (from_low h) (to_high h)
    (mul-above-r _ q.low b q.high r.low (from_low l) (to_high l) g.0 g.1)
    (mul-above-r _ q.low b q.high r.high (from_low l) (to_high l) g.2 g.3))
    (mul-below _ r.low a r.high b (from_low h) (to_high h)
    (mul-below-r _ q.low b q.high r.low (from_low l) (to_high l) k.0 k.1)
    (mul-below-r _ q.low b q.high r.high (from_low l) (to_high l) k.2 k.3))

pub in-arith : (k : Arith) {r q : Range} {a b : ℤ} → In r a → In q b → In (arith_r k r q) (arith_z k a b)
in-arith Add h l = between _ (add-mono (from_low h) (from_low l)) (add-mono (to_high h) (to_high l))
in-arith Subtract h l = between _ (sub-mono (from_low h) (to_high l)) (sub-mono (to_high h) (from_low l))
in-arith Multiply {r} {q} {a} {b} h l = in-product r q a b h l
in-arith Smaller h l = between _ (min-mono (from_low h) (from_low l)) (min-mono (to_high h) (to_high l))
in-arith Larger h l = between _ (max-mono (from_low h) (from_low l)) (max-mono (to_high h) (to_high l))

pub in-hull : (t : Bool) {r q : Range} {a b : ℤ} → In r a → In q b → In (hull r q) (pick t a b)
in-hull t {r} {q} h l = pick_all (In (hull r q)) t
    (between (hull r q) (⊑_trans (min-le-l r.low q.low) (from_low h)) (⊑_trans (to_high h) (le-max-l r.high q.high)))
    (between (hull r q) (⊑_trans (min-le-r r.low q.low) (from_low l)) (⊑_trans (to_high l) (le-max-r r.high q.high)))

pub in_one : (z : ℤ) → In (span z z) z
in_one z = between (span z z) (⊑_refl z) (⊑_refl z)

-- A state of n values, each in its variable's range; past the last both are 0.
pub in-bound-of : (n : ℕ) (low high : ℕ → ℤ) (s : State) → length s ≡ n → ((v : ℕ) → v < n → In (span (low v) (high v)) (value_of s v))
    → (v : ℕ) → In (bound_of n low high v) (value_of s v)
in-bound-of n low high s e h v = go (dec_lt v n)
  where
    go : Dec (v < n) → In (bound_of n low high v) (value_of s v)
    go (yes l) = rw (lt-ltb v n l) (h v l)
    go (no g) = rw (le-ltb v n (omega arith), get_or-eq_default s (pos 0) {n = v} (omega arith)) (in_one (pos 0))

-- The range of a variable of a body.
module _ (y : List ℕ) (v : ℕ) {n : ℕ} (e : n ≡ count_of 6 y) where
  pub bound-here : v < n → span (signed_field 6 y v 0) (signed_field 6 y v 1) ≡ bound_in y v
  unfolding bound_in
  bound-here h = rw (lt-ltb v (count_of 6 y) (rw e at h)) refl

  pub bound-past : n ≤ v → span (pos 0) (pos 0) ≡ bound_in y v
  unfolding bound_in
  bound-past h = rw (le-ltb v (count_of 6 y) (rw e at h)) refl

-- ---- each entry

module _ (x : Entries) (bound : ℕ → Range) (s : State) (bounded : (i : ℕ) → In (bound i) (value_of s i)) where
  ranges : Related (ranging bound) (meaning s) In Any
  ranges = record {
    constant = in_one;
    variable = bounded;
    binary = in-arith;
    choose = λ {t' = t} h. in-hull t;
    no_number = in_one (pos 0);
    compare = λ k h l. any;
    negate = λ h. any;
    join = λ k h l. any;
    always = any;
    no_truth = any;
  }

  pub in-range : (e : ℕ) → In (range_of x bound e) (number_in x s e)
  unfolding range_of
  in-range e = number-related (ranging bound) (meaning s) In Any ranges x (suc e) e
