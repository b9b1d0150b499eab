-- Request 2.1: the FNV-1a hash of a state's bytes. Exclusive-or with a byte touches the low byte alone, so the definition
-- computes.
-- Assumes nothing.
use Rattle.std.specs.Prelude.{ℕ, ◌+◌, ◌-◌, ◌*◌, ◌/◌, ◌%◌, ◌≡◌, refl, List, [], ◌∷◌, ℤ, pos, negsuc}
use Rattle.std.specs.Int.Bits.{bit_xor}
use Rattle.folder.specs.Fields.{field_limit, field4_limit}

abbrev pub fnv_start : ℕ
fnv_start = 2166136261

abbrev pub fnv_prime : ℕ
fnv_prime = 16777619

-- The product, of which 32 bits are kept.
abbrev pub mul_kept : ℕ → ℕ → ℕ
mul_kept a b = a * b % field4_limit

unfoldable pub xor_low : ℕ → ℕ → ℕ
xor_low h b = h / 256 * 256 + bit_xor (h % 256) b

-- Exclusive-or with the byte b, then multiply, keeping 32 bits.
unfoldable pub fnv_step : ℕ → ℕ → ℕ
fnv_step h b = mul_kept (xor_low h b) fnv_prime

unfoldable pub fnv_from : ℕ → List ℕ → ℕ
fnv_from h [] = h
fnv_from h (b ∷ bs) = fnv_from (fnv_step h b) bs

abbrev pub fnv : List ℕ → ℕ
fnv bs = fnv_from fnv_start bs

-- The 2-byte field that a value has in a folder: two's complement.
unfoldable pub bits : ℤ → ℕ
bits (pos n) = n
bits (negsuc n) = field_limit - 1 - n

-- The bytes of these values in a folder: two each, the low one first.
unfoldable pub bytes_of : List ℤ → List ℕ
bytes_of [] = []
bytes_of (z ∷ zs) = bits z % 256 ∷ bits z / 256 ∷ bytes_of zs

unfoldable pub hash_of : List ℤ → ℕ
hash_of s = fnv (bytes_of s)

-- The published vectors: the empty text, "a" and "foobar".
pub vector-empty : fnv [] ≡ 0x811c9dc5
unfolding fnv_from
vector-empty = refl

pub vector-a : fnv (97 ∷ []) ≡ 0xe40c292c
unfolding fnv_from fnv_step xor_low
vector-a = refl

pub vector-foobar : fnv (0x66 ∷ 0x6f ∷ 0x6f ∷ 0x62 ∷ 0x61 ∷ 0x72 ∷ []) ≡ 0xbf9cf968
unfolding fnv_from fnv_step xor_low
vector-foobar = refl
