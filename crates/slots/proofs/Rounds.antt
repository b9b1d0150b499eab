-- Two states that are one; slots round the end; counting full slots.
-- Assumes nothing.
use Prim.Native.Nat.{ℕ, zero, suc, ◌+◌, ◌-◌, ◌%◌, ◌≤◌, ◌<◌, zero-le}
use mathlib.Core.Path.{◌≡◌, refl, sym, ap, ◌∙◌}
use mathlib.Core.Bool.{Bool, true, false, false≢true}
use mathlib.Core.List.{List, [], ◌∷◌, ◌++◌}
use native.Mathlib.Nat.{mod-lt, mod-eq_of_lt, add-mod_right, mod-add-mod, mod_self, not-suc-le-zero}
use native.Mathlib.Decide.{dec_le}
use native.Mathlib.Omega.{arith}
use borrow.Author.Tests.{eqb-true}
use lib.ListN.{length, get_or, set}
use lib.Dec.{eqb}
use lib.IntN.{ℤ}
use Rattle.folder.specs.Pick.{pick}
use Rattle.folder.specs.Tab.{tab}
use Rattle.folder.proofs.Decides.{Decides, reworded, ◌∧also◌}
use Rattle.whole.proofs.Order.{equal-decided}
use Rattle.slots.specs.Slots.{no_node, same_state}

-- ---- two states
pub same-states : (x y : List ℤ) → Decides (x ≡ y) (same_state x y)
unfolding same_state
same-states [] [] = record { yes = λ e. refl; no = λ e. refl }
same-states [] (y ∷ ys) = record { yes = λ e. absurd (false≢true e); no = λ e. cc }
same-states (x ∷ xs) [] = record { yes = λ e. absurd (false≢true e); no = λ e. cc }
same-states (x ∷ xs) (y ∷ ys) = reworded (λ h i. h.0 i ∷ h.1 i) (λ e. (cc, cc)) (equal-decided x y ∧also same-states xs ys)

-- ---- round the end
-- Every slot is some distance from every other.
pub record Away (s a q : ℕ) : Type 0 where
  pub far : ℕ
  pub near : far < s
  pub is : (a + far) % s ≡ q

pub away : (s a q : ℕ) → a < s → q < s → Away s a q
away s a q l m = elim (dec_le a q) [
  | yes h ↦ record { far = q - a; near = omega arith; is = ap (λ (k : ℕ). k % s) (omega arith) ∙ mod-eq_of_lt m }
  | no g ↦ record { far = q + s - a; near = omega arith; is = ap (λ (k : ℕ). k % s) (omega arith) ∙ add-mod_right q s ∙ mod-eq_of_lt m }
]

-- One slot on: the code's test.
pub round-more : (s a d : ℕ) → (a + d) % s + 1 < s → (a + d) % s + 1 ≡ (a + (d + 1)) % s
round-more s a d l = sym (mod-eq_of_lt l) ∙ mod-add-mod (a + d) s 1 ∙ ap (λ (k : ℕ). k % s) (omega arith)

pub round-end : (s a d : ℕ) → 0 < s → s ≤ (a + d) % s + 1 → 0 ≡ (a + (d + 1)) % s
round-end s a d p l =
    let e : (a + d) % s + 1 ≡ s = omega (arith, mod-lt (a + d) p) in
    sym (mod_self s) ∙ ap (λ (k : ℕ). k % s) (sym e) ∙ mod-add-mod (a + d) s 1 ∙ ap (λ (k : ℕ). k % s) (omega arith)

-- ---- how many slots are full
unfoldable pub full_in : List ℕ → ℕ
full_in [] = 0
full_in (x ∷ xs) = pick (eqb x no_node) 0 1 + full_in xs

one_at_most : (b : Bool) → pick b 0 1 ≤ 1
one_at_most true = zero-le
one_at_most false = omega arith

pub full-set : (row : List ℕ) (q n : ℕ) → full_in (set row q n) ≤ full_in row + 1
unfolding full_in
full-set [] q n = zero-le
full-set (x ∷ xs) zero n = omega (arith, one_at_most (eqb n no_node))
full-set (x ∷ xs) (suc q) n = omega (arith, full-set xs q n)

-- With fewer full slots than slots, one is free.
pub record FreeIn (row : List ℕ) : Type 0 where
  pub at : ℕ
  pub within : at < length row
  pub free : get_or row at no_node ≡ no_node

pub free-there : (row : List ℕ) → full_in row < length row → FreeIn row
unfolding full_in
free-there [] h = absurd (not-suc-le-zero h)
free-there (x ∷ xs) h = go (free-there xs) (eqb x no_node) refl
  where
    go : (full_in xs < length xs → FreeIn xs) → (t : Bool) → eqb x no_node ≡ t → FreeIn (x ∷ xs)
    go rest true e = record { at = 0; within = omega arith; free = eqb-true x no_node e }
    go rest false e =
        let l : 1 + full_in xs < suc (length xs) = rw e at h in
        let f = rest (omega arith) in
        record { at = suc f.at; within = omega (arith, f.within); free = f.free }

full-append : (xs ys : List ℕ) → full_in (xs ++ ys) ≡ full_in xs + full_in ys
unfolding full_in
full-append [] ys = omega arith
full-append (x ∷ xs) ys = omega (arith, full-append xs ys)

pub full-none : (n : ℕ) → full_in (tab n (λ p. no_node)) ≡ 0
unfolding tab full_in
full-none zero = refl
full-none (suc n) = full-append (tab n (λ p. no_node)) (no_node ∷ []) ∙ omega (arith, full-none n)
