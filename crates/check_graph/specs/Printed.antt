-- What the check program prints, from what reading its two files gave.
-- Assumes nothing.
use Rattle.std.specs.Prelude.{ℕ, ◌+◌, ◌≤◌, List, leb, length, take, Option, None, Some}
use Rattle.folder.specs.Pick.{pick}
use Rattle.report.specs.Report.{report_text, no_file, too_long}

-- Bytes that the check program takes of a file.
abbrev pub most_read : ℕ
most_read = 65536

-- The lines for a file whose bytes are the first ones of a buffer, so many of them, if it could be read: `text` of them, if
-- it is not too long.
abbrev pub file_text : Option ℕ → List ℕ → (List ℕ → List ℕ) → List ℕ
file_text None buffer text = no_file
file_text (Some n) buffer text = pick (leb n most_read) (text (take n buffer)) too_long

-- The model is looked at first.
abbrev pub printed : Option ℕ → List ℕ → Option ℕ → List ℕ → List ℕ
printed m model g graph = file_text m model (λ a. file_text g graph (report_text a))

-- What one read from `at` on gave lies in the buffer.
abbrev pub Within : Option ℕ → ℕ → List ℕ → Type 0
Within None at buffer = Unit {0}
Within (Some n) at buffer = at + n ≤ length buffer
