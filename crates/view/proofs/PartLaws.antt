-- What the code reads of a folder by starts that may be anything: a part that lies within the folder.
-- Assumes nothing.
use Prim.Native.Nat.{ℕ, ◌+◌, ◌-◌, ◌*◌, ◌/◌, ◌<◌, ◌≤◌}
use mathlib.Core.Path.{◌≡◌}
use mathlib.Core.Bool.{true, false}
use mathlib.Core.List.{List, []}
use native.Mathlib.Nat.{add-sub_cancel_left, div-le_self}
use native.Mathlib.Omega.{arith}
use borrow.Author.Tests.{ltb-true, leb-true}
use lib.Dec.{ltb, leb}
use lib.ListN.{length, take, drop}
use Rattle.folder.proofs.Decides.{and_both}
use Rattle.model.specs.Layout.{bodies}
use Rattle.folder.proofs.ContentsLaws.{record-within}
use Rattle.view.specs.Starts.{start_in, bytes_in, size_in, is_in, place_in, length_in, part_in}

module _ (n : ℕ) (starts : List ℕ) (e i : ℕ) (h : is_in n starts e i ≡ true) where
  parts : (ltb e bodies ≡ true) ×
      ((leb (start_in n starts (e + 1)) n ≡ true) × (ltb i (bytes_in n starts e / size_in n starts e) ≡ true))
  unfolding is_in
  parts = let p = and_both _ _ h in (p.0, and_both _ _ p.1)

  -- A body that has a record starts before it ends.
  pub part-inside : start_in n starts e + size_in n starts e * i + size_in n starts e ≤ n
  unfolding bytes_in
  part-inside =
      let l : i < bytes_in n starts e / size_in n starts e = ltb-true i _ parts.1.1 in
      let w = record-within (size_in n starts e) (bytes_in n starts e) i l in
      omega (
        arith,
        w,
        div-le_self (bytes_in n starts e) (size_in n starts e),
        leb-true (start_in n starts (e + 1)) n
            parts.1.0,
      )

-- The code has the record's size and its body's start, as it works them out.
module _ (m starts : List ℕ) (e i : ℕ) {size start : ℕ} (p : size ≡ size_in (length m) starts e)
    (q : start ≡ start_in (length m) starts e) (h : is_in (length m) starts e i ≡ true) where
  pub there-inside : start + size * i + size ≤ length m
  there-inside = rw (p, q) (part-inside (length m) starts e i h)

  pub there-place : start + size * i ≡ place_in (length m) starts e i
  unfolding place_in
  there-place = rw (h, p, q)

  pub there-part : take (start + size * i + size - (start + size * i)) (drop (start + size * i) m) ≡ part_in m starts e i
  unfolding part_in length_in place_in
  there-part = simp (h, ← p, ← q, add-sub_cancel_left (start + size * i) size)

module _ (m starts : List ℕ) (e i : ℕ) (h : is_in (length m) starts e i ≡ false) where
  pub none-place : place_in (length m) starts e i ≡ 0
  unfolding place_in
  none-place = rw h

  pub none-part : [] ≡ part_in m starts e i
  unfolding part_in length_in place_in
  none-part = rw h
