-- One variable from a combination to the next.
-- Assumes nothing.
use Prim.Native.Nat.{ℕ, suc, ◌+◌, ◌-◌, ◌%◌, ◌≤◌, ◌<◌}
use mathlib.Core.Path.{◌≡◌, refl, sym, ap, ◌∙◌}
use mathlib.Core.Bool.{Bool, true, false, not, ◌&&◌}
use mathlib.Core.List.{List}
use native.Mathlib.Nat.{mod-one, zero-mod}
use native.Mathlib.Numerals.{add-one}
use native.Mathlib.Omega.{arith}
use borrow.Author.Tests.{le-ltb, ltb-true, ltb-false}
use lib.Dec.{ltb}
use lib.ListN.{length}
use lib.IntN.{ℤ, pos, ◌+ℤ◌, +ℤ_idr}
use lib.Signed.{lt_z, ◌≤ℤ◌}
use Rattle.folder.specs.Tab.{tab, fill}
use Rattle.folder.proofs.Decides.{and_both}
use Rattle.folder.proofs.FillLaws.{fill-whole}
use Rattle.expressions.specs.Reading.{has_bit}
use Rattle.expressions.specs.Mentions.{is_free}
use Rattle.expressions.specs.Combinations.{Label, width_of, choices, left_of, digit, value_in, combination}
use Rattle.expressions.specs.declared.Range.{Range}
use Rattle.expressions.proofs.Widths.{plus-two, less-high}
use Rattle.expressions.proofs.Combinations.{choices-some, value-tracked, value-free}
use Rattle.choices.specs.Next.{stops_at, next_value}
use Rattle.choices.proofs.Carry.{Last, carried, stayed, first-left, digit-up, digit-back}

-- ---- the tests, by whether the variable is free
module _ (bound : ℕ → Range) (m t v : ℕ) where
  free-choices : is_free m t v ≡ true → choices bound t m v ≡ width_of (bound v)
  unfolding choices
  free-choices e = rw e refl

  held-choices : is_free m t v ≡ false → choices bound t m v ≡ 1
  unfolding choices
  held-choices e = rw e refl

  free-stops : (z : ℤ) → is_free m t v ≡ true → stops_at bound m t v z ≡ lt_z z (bound v).high
  unfolding stops_at
  free-stops z e = rw e refl

  held-stops : (z : ℤ) → is_free m t v ≡ false → stops_at bound m t v z ≡ false
  unfolding stops_at
  held-stops z e = rw e refl

  pub next_up : (z : ℤ) → stops_at bound m t v z ≡ true → next_value bound m t v z ≡ z +ℤ pos 1
  unfolding next_value
  next_up z e = rw e refl

  pub next-back : (z : ℤ) → stops_at bound m t v z ≡ false → is_free m t v ≡ true → next_value bound m t v z ≡ (bound v).low
  unfolding next_value
  next-back z e f = rw (e, f) refl

  pub next-held : (z : ℤ) → stops_at bound m t v z ≡ false → is_free m t v ≡ false → next_value bound m t v z ≡ z
  unfolding next_value
  next-held z e f = rw (e, f) refl

  pub stops-less : (z : ℤ) → stops_at bound m t v z ≡ true → lt_z z (bound v).high ≡ true
  unfolding stops_at
  stops-less z e = (and_both (is_free m t v) (lt_z z (bound v).high) e).1

not-tracked : (a b : Bool) → (a && not b) ≡ true → b ≡ false
not-tracked a true e = sym (and_both a false e).1
not-tracked a false e = refl

-- ---- one variable
module _ (L : Label) (m : ℕ) where
  abbrev pub f : ℕ → ℕ
  f = choices L.bound L.tracked m

  some : (v : ℕ) → 0 < f v
  some v = choices-some L.bound L.tracked m v

  abbrev free : ℕ → Bool
  free v = is_free m L.tracked v

  abbrev pub stops : ℕ → ℕ → Bool
  stops j v = stops_at L.bound m L.tracked v (value_in L m j v)

  free-value : (j v : ℕ) → free v ≡ true → value_in L m j v ≡ (L.bound v).low +ℤ pos (digit L m j v)
  free-value j v e = value-free L m j v (not-tracked (has_bit m v) (has_bit L.tracked v) e)

  -- One that is not free has the same value in all combinations.
  no_digit : (j v : ℕ) → free v ≡ false → digit L m j v ≡ 0
  no_digit j v e = rw (held-choices L.bound m L.tracked v e) (mod-one (left_of f j v))

  held-value : (i j v : ℕ) → free v ≡ false → value_in L m i v ≡ value_in L m j v
  held-value i j v e = go (has_bit L.tracked v) refl
    where
      go : (b : Bool) → has_bit L.tracked v ≡ b → value_in L m i v ≡ value_in L m j v
      go true t = value-tracked L m i v t ∙ sym (value-tracked L m j v t)
      go false t = value-free L m i v t ∙ ap (λ (d : ℕ). (L.bound v).low +ℤ pos d) (no_digit i v e ∙ sym (no_digit j v e)) ∙ sym (value-free L m j v t)

  -- In the first combination one that is not tracked is at its low.
  pub first-low : (v : ℕ) → has_bit L.tracked v ≡ false → (L.bound v).low ≡ value_in L m 0 v
  first-low v t =
      let d : digit L m 0 v ≡ 0 = ap (λ (q : ℕ). q % f v) (first-left f v) ∙ zero-mod (f v) in
      sym (value-free L m 0 v t ∙ ap (λ (k : ℕ). (L.bound v).low +ℤ pos k) d ∙ +ℤ_idr (L.bound v).low)

  -- A row that is filled whole.
  pub filled-row : (j : ℕ) (row₀ : List ℤ) {n : ℕ} {row : List ℤ} → row ≡ fill n (value_in L m j) row₀ → n ≡ L.variables → length row₀ ≡ L.variables → row ≡ combination L m j
  unfolding combination
  filled-row j row₀ {n} h e k =
      let q : n ≡ length row₀ = e ∙ sym k in
      h ∙ ap (λ (i : ℕ). fill i (value_in L m j) row₀) q ∙ fill-whole (value_in L m j) row₀ ∙ ap (λ (i : ℕ). tab i (value_in L m j)) k

  module _ (ordered : (v : ℕ) → v < L.variables → (L.bound v).low ≤ℤ (L.bound v).high) where
    -- It goes up where its digit does.
    stops-is : (j v : ℕ) → v < L.variables → stops j v ≡ ltb (suc (digit L m j v)) (f v)
    stops-is j v l = go (free v) refl
      where
        go : (b : Bool) → free v ≡ b → stops j v ≡ ltb (suc (digit L m j v)) (f v)
        go true e =
            free-stops L.bound m L.tracked v (value_in L m j v) e
            ∙ ap (λ (z : ℤ). lt_z z (L.bound v).high) (free-value j v e)
            ∙ less-high (L.bound v) (ordered v l) (digit L m j v)
            ∙ ap (ltb (suc (digit L m j v))) (sym (free-choices L.bound m L.tracked v e))
        go false e =
            held-stops L.bound m L.tracked v (value_in L m j v) e
            ∙ sym (le-ltb (suc (digit L m j v)) (f v) (omega (arith, held-choices L.bound m L.tracked v e)))

    pub rests : (j v : ℕ) → v < L.variables → stops j v ≡ false → Last f j v
    rests j v l e = ltb-false (suc (digit L m j v)) (f v) (sym (stops-is j v l) ∙ e)

    goes : (j v : ℕ) → v < L.variables → stops j v ≡ true → suc (digit L m j v) < f v
    goes j v l e = ltb-true (suc (digit L m j v)) (f v) (sym (stops-is j v l) ∙ e)

    -- Its value in the next combination, where all below it go back.
    module _ (j v : ℕ) (l : v < L.variables) (below : (i : ℕ) → i < v → Last f j i) where
      carry : digit L m (suc j) v ≡ suc (left_of f j v) % f v
      carry = ap (λ (q : ℕ). q % f v) (carried f some j v below)

      pub next-is : next_value L.bound m L.tracked v (value_in L m j v) ≡ value_in L m (suc j) v
      next-is = go (free v) refl (stops j v) refl
        where
          go : (a : Bool) → free v ≡ a → (b : Bool) → stops j v ≡ b → next_value L.bound m L.tracked v (value_in L m j v) ≡ value_in L m (suc j) v
          go true a true b =
              let d : digit L m (suc j) v ≡ digit L m j v + 1 = carry ∙ digit-up (left_of f j v) (f v) (some v) (goes j v l b) ∙ sym (add-one (digit L m j v)) in
              next_up L.bound m L.tracked v (value_in L m j v) b
              ∙ ap (λ (z : ℤ). z +ℤ pos 1) (free-value j v a)
              ∙ plus-two (L.bound v).low (digit L m j v) 1
              ∙ sym (free-value (suc j) v a ∙ ap (λ (k : ℕ). (L.bound v).low +ℤ pos k) d)
          go true a false b =
              let d : digit L m (suc j) v ≡ 0 = carry ∙ digit-back (left_of f j v) (f v) (some v) (rests j v l b) in
              next-back L.bound m L.tracked v (value_in L m j v) b a
              ∙ sym (free-value (suc j) v a ∙ ap (λ (k : ℕ). (L.bound v).low +ℤ pos k) d ∙ +ℤ_idr (L.bound v).low)
          go false a b s =
              next-held L.bound m L.tracked v (value_in L m j v) (held-stops L.bound m L.tracked v (value_in L m j v) a) a
              ∙ held-value j (suc j) v a

      -- Once it went up, all above it stay.
      pub above-stays : stops j v ≡ true → (i : ℕ) → v < i → value_in L m j i ≡ value_in L m (suc j) i
      unfolding value_in
      above-stays b i h =
          let e : i ≡ (i - suc v) + suc v = omega arith in
          let s : left_of f (suc j) i ≡ left_of f j i = rw e (stayed f some j v below (goes j v l b) (i - suc v)) in
          rw s refl
