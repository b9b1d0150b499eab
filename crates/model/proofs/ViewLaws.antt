-- The view: a record that is there lies within the folder, and where it starts.
-- Assumes nothing.
use Prim.Native.Nat.{ℕ, ◌+◌, ◌-◌, ◌*◌, ◌<◌, ◌≤◌}
use mathlib.Core.Path.{◌≡◌, refl, sym}
use mathlib.Core.Bool.{true, false, false≢true, and-false}
use mathlib.Core.List.{List, []}
use native.Mathlib.Nat.{zero-add, add-sub_cancel_left}
use native.Mathlib.Omega.{arith}
use borrow.Author.Tests.{ltb-true, le-ltb}
use lib.Dec.{ltb}
use lib.ListN.{length, take, drop}
use Rattle.folder.specs.Contents.{start_of, body, count_of}
use Rattle.folder.specs.Table.{outcome, Outcome}
use Rattle.folder.proofs.ContentsLaws.{body-said, record-within}
use Rattle.folder.proofs.Decides.{and_both}
use Rattle.folder.proofs.TableLaws.{accepted-asks}
use Rattle.model.specs.Layout.{bodies, record_size, record_count}
use Rattle.model.specs.Table.{folder_rows}
use Rattle.model.specs.Valid.{FolderRight}
use Rattle.model.specs.View.{record_there, view_start, view_length, view_part}
use Rattle.model.proofs.Decided.{folder-asks}
use Rattle.std.specs.Prelude.{Err, Ok, is_ok}

pub accepted-is : (o : Outcome) → is_ok o ≡ true → o ≡ (Ok tt)
accepted-is (Ok _) h = refl
accepted-is (Err f) h = absurd (false≢true h)

pub no_body : (m : List ℕ) (e i : ℕ) → bodies ≤ e → false ≡ record_there m e i
unfolding record_there
no_body m e i l = rw (le-ltb e bodies l) (sym (and-false (is_ok (outcome (folder_rows m)))))

-- A pointer moved on by as much, and by nothing.
pub moved : (p : ℕ × ℕ) {a b : ℕ} → a ≡ b → ◌≡◌ {A = ℕ × ℕ} (p.0, a + p.1) (p.0, b + p.1)
moved p e = λ i. (p.0, e i + p.1)

pub unmoved : (p : ℕ × ℕ) {a : ℕ} → a ≡ 0 → p ≡ (p.0, a + p.1)
unmoved p e = rw (e, zero-add) refl

-- The code has the record's size and its body's start, as it reads them.
module _ (m : List ℕ) (e i : ℕ) (h : record_there m e i ≡ true) where
  parts : (is_ok (outcome (folder_rows m)) ≡ true) × ((ltb e bodies ≡ true) × (ltb i (record_count m e) ≡ true))
  unfolding record_there
  parts = let p = and_both _ _ h in (p.0, and_both _ _ p.1)

  pub there-body : e < bodies
  there-body = ltb-true e bodies parts.1.0

  module _ {size start : ℕ} (p : size ≡ record_size m e) (q : start ≡ start_of m e) where
    pub there-inside : start + size * i + size ≤ length m
    unfolding record_count count_of
    there-inside =
        let f : FolderRight m = (accepted-asks (folder-asks m)).0 (accepted-is _ parts.0) in
        let w = record-within (record_size m e) (length (body m e)) i (ltb-true i _ parts.1.1) in
        rw (p, q) (omega (arith, w, body-said m e, (f.contents e there-body).ends))

    pub there-start : start + size * i ≡ view_start m e i
    unfolding view_start
    there-start = rw (h, p, q)

    pub there-part : take (start + size * i + size - (start + size * i)) (drop (start + size * i) m) ≡ view_part m e i
    unfolding view_part view_length view_start
    there-part = simp (h, ← p, ← q, add-sub_cancel_left (start + size * i) size)

module _ (m : List ℕ) (e i : ℕ) (h : record_there m e i ≡ false) where
  pub none-start : view_start m e i ≡ 0
  unfolding view_start
  none-start = rw h

  pub none-part : [] ≡ view_part m e i
  unfolding view_part view_length view_start
  none-part = rw h
