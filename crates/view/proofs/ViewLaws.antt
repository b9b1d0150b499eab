-- What is looked up in the view of a folder is the record that document 01 says.
-- Assumes nothing.
use Prim.Native.Nat.{ℕ, ◌+◌, ◌/◌, ◌<◌, ◌≤◌}
use mathlib.Core.Path.{◌≡◌, refl, sym, ap, ◌∙◌, subst}
use mathlib.Core.Bool.{Bool, true, false, ◌&&◌}
use mathlib.Core.List.{List}
use native.Mathlib.Decide.{dec_lt}
use native.Mathlib.Nat.{add-sub_cancel, add-sub_cancel_left, sub_self, zero-div}
use native.Mathlib.Omega.{arith}
use borrow.Author.Tests.{lt-ltb, le-ltb, le-leb, ne_eqb}
use lib.Dec.{ltb, leb}
use lib.ListN.{length, drop, length-drop, get_or-eq_default}
use lib.Seq.{length-take-le}
use denote.Ref.{Bor}
use Rattle.folder.specs.Contents.{start_of, length_of, due_start, body, count_of}
use Rattle.folder.specs.Tab.{tab}
use Rattle.folder.specs.Table.{outcome}
use Rattle.folder.proofs.TabLaws.{length-tab, get_or-tab}
use Rattle.folder.proofs.TableLaws.{accepted-asks}
use Rattle.model.specs.Layout.{bodies, record_size, record_count}
use Rattle.model.specs.Table.{folder_rows}
use Rattle.model.specs.Valid.{FolderRight}
use Rattle.model.specs.View.{record_there, view_start, view_length, view_part}
use Rattle.model.proofs.Decided.{folder-asks}
use Rattle.model.proofs.ViewLaws.{accepted-is, no_body, moved}
use Rattle.std.specs.Prelude.{is_ok}
use Rattle.view.specs.Starts.{starts_of, start_in, bytes_in, size_in, is_in, place_in, length_in, part_in}
use Rattle.view.specs.Held.{Views, Looked}
use Rattle.view.specs.declared.View.{View}

-- ---- a folder that breaks none of causes 1 to 3
module _ (m : List ℕ) (h : is_ok (outcome (folder_rows m)) ≡ true) where
  right : FolderRight m
  right = (accepted-asks (folder-asks m)).0 (accepted-is _ h)

  start_is : (e : ℕ) → e < bodies → start_in (length m) (starts_of m) e ≡ start_of m e
  unfolding start_in starts_of
  start_is e l = rw h (get_or-tab (length m) bodies (start_of m) e l)

  last_end : start_in (length m) (starts_of m) bodies ≡ length m
  unfolding start_in starts_of
  last_end =
      rw h (get_or-eq_default (tab bodies (start_of m)) (length m) (rw (length-tab bodies (start_of m)) (omega arith)))

  next_start : (e : ℕ) → due_start m bodies (e + 1) ≡ start_of m e + length_of m e
  unfolding due_start
  next_start e = rw (ne_eqb (e + 1) 0 (λ q. omega arith), add-sub_cancel e 1)

  end_is : (e : ℕ) → e < bodies → Dec (e + 1 < bodies)
      → start_in (length m) (starts_of m) (e + 1) ≡ start_of m e + length_of m e
  end_is e l (yes p) = start_is (e + 1) p ∙ (right.contents (e + 1) p).start ∙ next_start e
  end_is e l (no g) =
      let q : e + 1 ≡ bodies = omega arith in
      ap (start_in (length m) (starts_of m)) q ∙ last_end ∙ sym ((right.contents e l).final q)

  bytes-are : (e : ℕ) → e < bodies → bytes_in (length m) (starts_of m) e ≡ length_of m e
  unfolding bytes_in
  bytes-are e l = rw (end_is e l (dec_lt (e + 1) bodies), start_is e l) (add-sub_cancel_left _ _)

  body-long : (e : ℕ) → e < bodies → length (body m e) ≡ length_of m e
  unfolding body
  body-long e l =
      length-take-le (length_of m e) (drop (start_of m e) m)
      (omega (arith, length-drop (start_of m e) m, (right.contents e l).ends))

  size_is : (e : ℕ) → size_in (length m) (starts_of m) e ≡ record_size m e
  unfolding size_in record_size count_of
  size_is e = rw (bytes-are 1 (omega arith), body-long 1 (omega arith))

  count-is : (e : ℕ) → e < bodies
      → bytes_in (length m) (starts_of m) e / size_in (length m) (starts_of m) e ≡ record_count m e
  unfolding record_count count_of
  count-is e l = rw (bytes-are e l, size_is e, body-long e l)

  ends-within : (e : ℕ) → e < bodies → start_in (length m) (starts_of m) (e + 1) ≤ length m
  ends-within e l = rw (end_is e l (dec_lt (e + 1) bodies)) (right.contents e l).ends

  accepted-in : (e i : ℕ) → e < bodies → is_in (length m) (starts_of m) e i ≡ record_there m e i
  unfolding is_in record_there
  accepted-in e i l = rw (lt-ltb e bodies l, le-leb _ _ (ends-within e l), count-is e l, h)

none_in : (a b : Bool) → (a && (b && false)) ≡ false
none_in true true = refl
none_in true false = refl
none_in false b = refl

-- ---- one that breaks one of them: every body starts and ends with the folder
module _ (m : List ℕ) (h : is_ok (outcome (folder_rows m)) ≡ false) where
  start-last : (e : ℕ) → Dec (e < bodies) → start_in (length m) (starts_of m) e ≡ length m
  unfolding start_in starts_of
  start-last e (yes l) = rw h (get_or-tab (length m) bodies (λ _. length m) e l)
  start-last e (no g) =
      rw h (get_or-eq_default (tab bodies (λ _. length m)) (length m)
      (rw (length-tab bodies (λ (_ : ℕ). length m)) (omega arith)))

  no_bytes : (e : ℕ) → bytes_in (length m) (starts_of m) e ≡ 0
  unfolding bytes_in
  no_bytes e = rw (start-last (e + 1) (dec_lt (e + 1) bodies), start-last e (dec_lt e bodies)) (sub_self (length m))

  refused-in : (e i : ℕ) → is_in (length m) (starts_of m) e i ≡ false
  unfolding is_in
  refused-in e i =
      rw (no_bytes e, zero-div (size_in (length m) (starts_of m) e), le-ltb i 0 (omega arith))
      (none_in (ltb e bodies) (leb (start_in (length m) (starts_of m) (e + 1)) (length m)))

  refused-there : (e i : ℕ) → record_there m e i ≡ false
  unfolding record_there
  refused-there e i = rw h

-- ---- any folder
pub outside : (n : ℕ) (starts : List ℕ) (e i : ℕ) → bodies ≤ e → is_in n starts e i ≡ false
unfolding is_in
outside n starts e i l = rw (le-ltb e bodies l)

module _ (m : List ℕ) (e i : ℕ) where
  abbrev Same : Type 0
  Same =
      (place_in (length m) (starts_of m) e i ≡ view_start m e i) ×
      (length_in (length m) (starts_of m) e i ≡ view_length m e i)

  none-same : is_in (length m) (starts_of m) e i ≡ false → record_there m e i ≡ false → Same
  unfolding place_in length_in view_start view_length
  none-same p q = (rw (p, q), rw (p, q))

  there-same : is_ok (outcome (folder_rows m)) ≡ true → e < bodies → Same
  unfolding place_in length_in view_start view_length
  there-same h l =
      (rw (accepted-in m h e i l, start_is m h e l, size_is m h e), rw (accepted-in m h e i l, size_is m h e))

  same_by : (b : Bool) → is_ok (outcome (folder_rows m)) ≡ b → Dec (e < bodies) → Same
  same_by true h (yes l) = there-same h l
  same_by true h (no g) =
      none-same (outside (length m) (starts_of m) e i (omega arith)) (sym (no_body m e i (omega arith)))
  same_by false h d = none-same (refused-in m h e i) (refused-there m h e i)

  same : Same
  same = same_by (is_ok (outcome (folder_rows m))) refl (dec_lt e bodies)

  part_same : part_in m (starts_of m) e i ≡ view_part m e i
  unfolding part_in view_part
  part_same = rw (same.0, same.1)

-- What is looked up by the starts of the folder's bodies.
pub seen : (m : Bor (List ℕ)) (e i : ℕ) {r : Bor (List ℕ)} → Looked m (starts_of m.now) e i r
    → (r.now ≡ view_part m.now e i) × (r.ref_ptr ≡ (m.ref_ptr.0, view_start m.now e i + m.ref_ptr.1))
seen m e i h = (h.bytes ∙ part_same m.now e i, h.place ∙ moved m.ref_ptr (same m.now e i).0)

-- What is looked up in a view of the folder.
pub viewed : (m : Bor (List ℕ)) {v : View} → Views m v → (e i : ℕ) {r : Bor (List ℕ)}
    → Looked v.model v.starts e i r
    → (r.now ≡ view_part m.now e i) × (r.ref_ptr ≡ (m.ref_ptr.0, view_start m.now e i + m.ref_ptr.1))
viewed m q e i {r} h = seen m e i (subst (λ (v : View). Looked v.model v.starts e i r) q h)
