-- What is printed of a file, by what reading it gave; and a text's place in its buffer.
-- Assumes nothing.
use Prim.Native.Nat.{ℕ, ◌+◌, ◌≤◌, ◌<◌}
use native.Mathlib.Omega.{arith}
use mathlib.Core.Path.{◌≡◌, sym, ap, subst}
use mathlib.Core.List.{List}
use borrow.Author.Tests.{le-leb, lt-leb}
use lib.ListN.{length, take, length-append, length-drop}
use lib.Seq.{length-take-le}
use Rattle.text.specs.Text.{ascii, written, Holds}
use Rattle.text.proofs.TextLaws.{holds-none, holds_more}
use Rattle.report.specs.Room.{text_room}
use Rattle.report.specs.Report.{no_file, too_long}
use Rattle.std.specs.Prelude.{Option, None, Some}
use Rattle.check_graph.specs.Printed.{most_read, file_text, Within}

pub read-within : {r : Option ℕ} {n : ℕ} (at : ℕ) (buffer : List ℕ)
    → Within r at buffer → r ≡ Some n → at + n ≤ length buffer
read-within at buffer h e = subst (λ (q : Option ℕ). Within q at buffer) e h

module _ {out out' : List ℕ} {k : ℕ} (r : Option ℕ) (buffer : List ℕ) (text : List ℕ → List ℕ) where
  -- A line alone, as it is put.
  line : (l : List ℕ) → length l ≤ length out → k ≡ 0 + length l → out' ≡ written out 0 l → Holds out l out' k
  line l room e w = holds_more (holds-none out) l (omega arith) e w

  pub failed-line : r ≡ None → text_room ≤ length out → k ≡ 0 + length no_file → out' ≡ written out 0 no_file
      → Holds out (file_text r buffer text) out' k
  unfolding ascii
  failed-line e room p w = rw e (line no_file (omega arith) p w)

  module _ (n : ℕ) (e : r ≡ Some n) where
    pub long-line : most_read < n → text_room ≤ length out → k ≡ 0 + length too_long → out' ≡ written out 0 too_long
        → Holds out (file_text r buffer text) out' k
    unfolding ascii
    long-line l room p w = rw (e, lt-leb n most_read l) (line too_long (omega arith) p w)

    pub read-lines : n ≤ most_read → Holds out (text (take n buffer)) out' k → Holds out (file_text r buffer text) out' k
    read-lines l h = rw (e, le-leb n most_read l) h

-- The text ends in its buffer.
module _ {out₀ p out : List ℕ} {at : ℕ} (h : Holds out₀ p out at) where
  pub ends-within : at ≤ length out
  ends-within = omega (arith, h.ends, simp (length-append, length-drop) at (ap length h.same))

  pub part-long : at ≡ length (take at out)
  part-long = sym (length-take-le at out ends-within)
