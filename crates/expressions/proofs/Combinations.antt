-- Combinations are states of the label, and every state of the label agrees with one of them on what is mentioned.
-- Assumes nothing.
use Prim.Native.Nat.{ℕ, ◌+◌, ◌%◌, ◌≤◌, ◌<◌}
use mathlib.Core.Path.{◌≡◌, refl, sym, ap, ◌∙◌}
use mathlib.Core.Bool.{Bool, true, false, not, ◌&&◌, ◌||◌}
use native.Mathlib.Nat.{mod-lt, mod-eq_of_lt}
use native.Mathlib.Decide.{dec_lt}
use native.Mathlib.Omega.{arith}
use lib.ListN.{get_or, get_or-eq_default}
use lib.IntN.{pos, nat_abs, ◌+ℤ◌, ◌-ℤ◌}
use lib.Signed.{◌≤ℤ◌}
use Rattle.folder.specs.Pick.{pick}
use Rattle.folder.specs.Tab.{tab}
use Rattle.folder.proofs.TabLaws.{length-tab, get_or-tab}
use Rattle.expressions.specs.Meaning.{State, value_of}
use Rattle.expressions.specs.Reading.{has_bit}
use Rattle.expressions.specs.declared.Range.{Range}
use Rattle.expressions.specs.Mentions.{union, is_free}
use Rattle.expressions.specs.Combinations.{Label, Holds, Proper, product_of, width_of, left_of, choices, combinations, digit, value_in, combination}
use Rattle.expressions.proofs.Bits.{union-bit}
use Rattle.expressions.proofs.Mentions.{Agree}
use Rattle.expressions.proofs.Digits.{product_of-some, numbered, digit-is, numbered-lt}
use Rattle.expressions.proofs.Widths.{above, far, within-width, width-within}

pub choices-some : (bound : ℕ → Range) (t m v : ℕ) → 0 < choices bound t m v
unfolding choices width_of
choices-some bound t m v = go (is_free m t v)
  where
    go : (b : Bool) → 0 < pick b (nat_abs ((bound v).high -ℤ (bound v).low) + 1) 1
    go true = omega arith
    go false = omega arith

pub choices-most : (bound : ℕ → Range) (t m v : ℕ) → choices bound t m v ≤ width_of (bound v)
unfolding choices width_of
choices-most bound t m v = go (is_free m t v)
  where
    go : (b : Bool) → pick b (nat_abs ((bound v).high -ℤ (bound v).low) + 1) 1 ≤ nat_abs ((bound v).high -ℤ (bound v).low) + 1
    go true = omega arith
    go false = omega arith

module _ (L : Label) (m : ℕ) where
  abbrev f : ℕ → ℕ
  f v = choices L.bound L.tracked m v

  some : (v : ℕ) → 0 < f v
  some v = choices-some L.bound L.tracked m v

  pub some-combination : 0 < combinations L.variables L.bound L.tracked m
  unfolding combinations
  some-combination = product_of-some f some L.variables

  value_there : (j v : ℕ) → v < L.variables → value_of (combination L m j) v ≡ value_in L m j v
  unfolding combination
  value_there j v l = get_or-tab (pos 0) L.variables (value_in L m j) v l

  pub value-tracked : (j v : ℕ) → has_bit L.tracked v ≡ true → value_in L m j v ≡ get_or L.values v (pos 0)
  unfolding value_in
  value-tracked j v t = rw t refl

  pub value-free : (j v : ℕ) → has_bit L.tracked v ≡ false → value_in L m j v ≡ (L.bound v).low +ℤ pos (digit L m j v)
  unfolding value_in
  value-free j v t = rw t refl

  module _ (P : Proper L) where
    value_low : (j v : ℕ) → v < L.variables → (b : Bool) → has_bit L.tracked v ≡ b → (L.bound v).low ≤ℤ value_in L m j v
    value_low j v l true t = rw (value-tracked j v t) (P.low v t)
    value_low j v l false t = rw (value-free j v t) (above (L.bound v).low (digit L m j v))

    value-high : (j v : ℕ) → v < L.variables → (b : Bool) → has_bit L.tracked v ≡ b → value_in L m j v ≤ℤ (L.bound v).high
    value-high j v l true t = rw (value-tracked j v t) (P.high v t)
    value-high j v l false t =
        rw (value-free j v t) (within-width (L.bound v) (P.ordered v l) (digit L m j v) (omega (arith, mod-lt (left_of f j v) (some v), choices-most L.bound L.tracked m v)))

    pub combination-holds : (j : ℕ) → Holds L (combination L m j)
    unfolding combination
    combination-holds j = record {
      long = length-tab L.variables (value_in L m j);
      low = λ v l. rw (value_there j v l) (value_low j v l (has_bit L.tracked v) refl);
      high = λ v l. rw (value_there j v l) (value-high j v l (has_bit L.tracked v) refl);
      agrees = λ v l t. value_there j v l ∙ value-tracked j v t;
    }

    -- The combination of a state.
    module _ (s : State) (h : Holds L s) where
      digit_of : ℕ → ℕ
      digit_of v = nat_abs (value_of s v -ℤ (L.bound v).low) % f v

      digit-below : (v : ℕ) → digit_of v < f v
      unfolding digit_of
      digit-below v = mod-lt (nat_abs (value_of s v -ℤ (L.bound v).low)) (some v)

      pub place_of : ℕ
      place_of = numbered f some digit_of digit-below L.variables 0

      pub place-below : place_of < combinations L.variables L.bound L.tracked m
      unfolding place_of combinations
      place-below = numbered-lt f some digit_of digit-below L.variables

      digit_at : (v : ℕ) → v < L.variables → digit L m place_of v ≡ digit_of v
      unfolding place_of
      digit_at v l = digit-is f some digit_of digit-below L.variables v l

      choices-free : (v : ℕ) → has_bit m v ≡ true → has_bit L.tracked v ≡ false → f v ≡ width_of (L.bound v)
      unfolding choices
      choices-free v q t = rw (q, t) refl

      same-value : (v : ℕ) → v < L.variables → has_bit m v ≡ true → (b : Bool) → has_bit L.tracked v ≡ b → value_in L m place_of v ≡ value_of s v
      unfolding digit_of
      same-value v l q true t = value-tracked place_of v t ∙ sym (h.agrees v l t)
      same-value v l q false t =
          let small : nat_abs (value_of s v -ℤ (L.bound v).low) < width_of (L.bound v) = width-within (L.bound v) (P.ordered v l) (value_of s v) (h.low v l) (h.high v l) in
          value-free place_of v t
          ∙ ap (λ (k : ℕ). (L.bound v).low +ℤ pos k) (digit_at v l ∙ mod-eq_of_lt (rw (choices-free v q t) small))
          ∙ sym (far (L.bound v).low (value_of s v) (h.low v l))

      pub place-agrees : Agree (value_of (combination L m place_of)) (value_of s) m
      place-agrees = record { on = λ v q. go v q (dec_lt v L.variables) }
        where
          go : (v : ℕ) → has_bit m v ≡ true → Dec (v < L.variables) → value_of (combination L m place_of) v ≡ value_of s v
          go v q (yes l) = value_there place_of v l ∙ same-value v l q (has_bit L.tracked v) refl
          go v q (no g) =
              let past : L.variables ≤ v = omega arith in
              get_or-eq_default (combination L m place_of) (pos 0) {n = v} (omega (arith, (combination-holds place_of).long))
              ∙ sym (get_or-eq_default s (pos 0) {n = v} (omega (arith, h.long)))

-- Two sets that have the same untracked variables have the same combinations.
module _ (L : Label) (m m' : ℕ) (same : union m L.tracked ≡ union m' L.tracked) where
  free-by : (n v : ℕ) → is_free n L.tracked v ≡ (has_bit (union n L.tracked) v && not (has_bit L.tracked v))
  free-by n v = rw (union-bit n L.tracked v) (go (has_bit n v) (has_bit L.tracked v))
    where
      go : (a b : Bool) → (a && not b) ≡ ((a || b) && not b)
      go true b = refl
      go false true = refl
      go false false = refl

  same-choices : choices L.bound L.tracked m ≡ choices L.bound L.tracked m'
  unfolding choices
  same-choices i v = pick ((free-by m v ∙ ap (λ (n : ℕ). has_bit n v && not (has_bit L.tracked v)) same ∙ sym (free-by m' v)) i) (width_of (L.bound v)) 1

  pub same_count : combinations L.variables L.bound L.tracked m ≡ combinations L.variables L.bound L.tracked m'
  unfolding combinations
  same_count = ap (product_of L.variables) same-choices

  pub same-combination : (j : ℕ) → combination L m j ≡ combination L m' j
  unfolding combination value_in
  same-combination j i = tab L.variables (λ v. pick (has_bit L.tracked v) (get_or L.values v (pos 0)) ((L.bound v).low +ℤ pos (left_of (same-choices i) j v % same-choices i v)))
