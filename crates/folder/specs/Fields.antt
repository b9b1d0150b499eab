-- Document 01, "Folders": little-endian fields of a list of bytes. Past its end every byte reads as 0.
-- Assumes nothing.
use Rattle.std.specs.Prelude.{ℕ, ◌+◌, ◌*◌, ◌/◌, List, get_or, ltb, ℤ, pos, ◌-ℤ◌}
use Rattle.folder.specs.Pick.{pick}

-- What a field of 2 bytes stays below, and one of 4.
abbrev pub field_limit : ℕ
field_limit = 65536

abbrev pub field4_limit : ℕ
field4_limit = field_limit * field_limit

-- The unsigned fields of 2 and of 4 bytes at position k.
unfoldable pub u16 : List ℕ → ℕ → ℕ
u16 s k = get_or s k 0 + get_or s (k + 1) 0 * 256

unfoldable pub u32 : List ℕ → ℕ → ℕ
u32 s k = u16 s k + u16 s (k + 2) * field_limit

-- A field of 2 bytes read as signed: two's complement, negative from half the limit on.
abbrev pub half_limit : ℕ
half_limit = field_limit / 2

unfoldable pub signed16 : ℕ → ℤ
signed16 u = pick (ltb u half_limit) (pos u) (pos u -ℤ pos field_limit)

abbrev pub i16 : List ℕ → ℕ → ℤ
i16 s k = signed16 (u16 s k)
