-- Where the view's part starts, as the code finds it.
-- Assumes nothing.
use Prim.Native.Nat.{ℕ, ◌+◌, ◌*◌, ◌<◌, ◌≤◌}
use mathlib.Core.Path.{◌≡◌, refl, sym}
use mathlib.Core.Bool.{true}
use mathlib.Core.List.{List}
use native.Mathlib.Omega.{arith}
use borrow.Author.Tests.{lt-ltb, le-ltb}
use lib.ListN.{length}
use Rattle.folder.specs.Contents.{start_of, body}
use Rattle.folder.specs.Table.{outcome}
use Rattle.folder.specs.declared.Refusal.{Refusal}
use Rattle.folder.proofs.ContentsLaws.{body-short, record-whole}
use Rattle.model.specs.Layout.{bodies, record_size, record_count}
use Rattle.model.specs.Table.{folder_rows}
use Rattle.model.specs.View.{record_there, view_start}
use Rattle.model.proofs.ViewLaws.{none-start, there-start, no_body as no-record-there}
use Rattle.std.specs.Prelude.{Err, Ok}

module _ (m : List ℕ) (e i : ℕ) where
  pub no_body : bodies ≤ e → 0 ≡ view_start m e i
  no_body l = sym (none-start m e i (sym (no-record-there m e i l)))

  pub no-folder : (f : Refusal) → outcome (folder_rows m) ≡ Err f → 0 ≡ view_start m e i
  unfolding record_there
  no-folder f r = sym (none-start m e i (rw r refl))

  -- The records before it are no longer than the folder.
  pub records-short : i < record_count m e → record_size m e * i ≤ length m
  unfolding record_count
  records-short l = omega (arith, record-whole (record_size m e) (body m e) i l, body-short m e)

  module _ (a : outcome (folder_rows m) ≡ (Ok tt)) (b : e < bodies) where
    pub no_record : record_count m e ≤ i → 0 ≡ view_start m e i
    unfolding record_there
    no_record l = sym (none-start m e i (rw (a, lt-ltb e bodies b, le-ltb i (record_count m e) l) refl))

    there : i < record_count m e → record_there m e i ≡ true
    unfolding record_there
    there l = rw (a, lt-ltb e bodies b, lt-ltb i (record_count m e) l) refl

    pub record-starts : {size start : ℕ} → i < record_count m e → size ≡ record_size m e → start ≡ start_of m e
        → start + size * i ≡ view_start m e i
    record-starts l p q = there-start m e i (there l) p q
