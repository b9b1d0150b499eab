-- A slice from `a` on, lent and given back.
-- Assumes nothing.
use Prim.Native.Nat.{ℕ, ◌+◌, ◌-◌, ◌≤◌}
use mathlib.Core.Path.{◌≡◌, ap, ◌∙◌}
use mathlib.Core.List.{List, [], ◌++◌, append-nil}
use native.Mathlib.Omega.{arith}
use lib.ListN.{length, take, drop, length-drop}
use lib.Seq.{take_all, drop-drop, drop-length}
use borrow.Rule.Slice.PartMut.{put_mid}

module _ (a : ℕ) (xs : List ℕ) where
  pub part_of : take (length xs - a) (drop a xs) ≡ drop a xs
  part_of = take_all (length xs - a) (drop a xs) (omega (arith, length-drop a xs))

  pub part-back : a ≤ length xs → (ys : List ℕ) → put_mid a (length xs - a) xs ys ≡ take a xs ++ ys
  part-back l ys =
      let e : a + (length xs - a) ≡ length xs = omega arith in
      let n : drop (length xs - a) (drop a xs) ≡ [] = drop-drop (length xs - a) a xs ∙ ap (λ (k : ℕ). drop k xs) e ∙ drop-length xs in
      ap (λ (z : List ℕ). take a xs ++ (ys ++ z)) n ∙ ap (λ (z : List ℕ). take a xs ++ z) (append-nil ys)
