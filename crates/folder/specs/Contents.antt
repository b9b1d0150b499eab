-- Document 01, "Folders": the table of contents, the bodies, and their records.
-- Assumes nothing.
use Rattle.std.specs.Prelude.{ℕ, ◌+◌, ◌-◌, ◌*◌, ◌/◌, ◌≤◌, ◌≡◌, List, Bool, ◌&&◌, length, take, drop, leb, eqb, ℤ}
use Rattle.folder.specs.Pick.{pick, implies}
use Rattle.folder.specs.Fields.{u16, u32, signed16}

-- Entry e of the table: where its body starts, and the body's length.
abbrev pub start_of : List ℕ → ℕ → ℕ
start_of s e = u32 s (e * 8)

abbrev pub length_of : List ℕ → ℕ → ℕ
length_of s e = u32 s (e * 8 + 4)

-- Where body e of k must start: right after the table, or where the last body ended.
unfoldable pub due_start : List ℕ → ℕ → ℕ → ℕ
due_start s k e = pick (eqb e 0) (k * 8) (start_of s (e - 1) + length_of s (e - 1))

-- Entry e of k is not off: its start is the due one, its end does not pass the folder's, and the final one ends there.
unfoldable pub entry_ok : List ℕ → ℕ → ℕ → Bool
entry_ok s k e =
    (eqb (start_of s e) (due_start s k e) && leb (start_of s e + length_of s e) (length s))
    && implies (eqb (e + 1) k) (eqb (start_of s e + length_of s e) (length s))

-- The same as a rule.
pub record EntryRight (s : List ℕ) (k e : ℕ) : Type 0 where
  pub start : start_of s e ≡ due_start s k e
  pub ends : start_of s e + length_of s e ≤ length s
  pub final : e + 1 ≡ k → start_of s e + length_of s e ≡ length s

-- Body e.
unfoldable pub body : List ℕ → ℕ → List ℕ
body s e = take (length_of s e) (drop (start_of s e) s)

-- How many records of `size` bytes a body has.
unfoldable pub count_of : ℕ → List ℕ → ℕ
count_of size b = length b / size

-- The 2-byte field f, from 0, of record i of a body of records of `size` bytes.
unfoldable pub field : ℕ → List ℕ → ℕ → ℕ → ℕ
field size b i f = u16 b (size * i + 2 * f)

abbrev pub signed_field : ℕ → List ℕ → ℕ → ℕ → ℤ
signed_field size b i f = signed16 (field size b i f)

-- The 4-byte field that starts where the 2-byte field f does.
unfoldable pub field4 : ℕ → List ℕ → ℕ → ℕ → ℕ
field4 size b i f = u32 b (size * i + 2 * f)
