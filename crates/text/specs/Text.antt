-- Text as a list of bytes: words in ASCII, numbers in decimal, and text written over a part of a list.
-- Assumes nothing.
use Rattle.std.specs.Prelude.{ℕ, zero, suc, ◌+◌, ◌/◌, ◌%◌, ◌≡◌, List, [], ◌∷◌, ◌++◌, ltb, length, take, drop}
use Prim.Native.Char.{code}
use Prim.Native.String.{String, [] as empty, ◌∷◌ as ◌first◌}
use Rattle.folder.specs.Pick.{pick}

unfoldable pub ascii : String → List ℕ
ascii empty = []
ascii (c first s) = code c ∷ ascii s

-- The decimal digits of n, at most k of them, the most significant first.
unfoldable pub decimal_within : ℕ → ℕ → List ℕ
decimal_within zero n = []
decimal_within (suc k) n = pick (ltb n 10) ((48 + n) ∷ []) (decimal_within k (n / 10) ++ ((48 + n % 10) ∷ []))

-- 20 digits hold every number below 2 to the power 64.
abbrev pub decimal : ℕ → List ℕ
decimal n = decimal_within 20 n

-- Positions and the lengths of words stay at most this, so that sums of them fit.
abbrev pub most_text : ℕ
most_text = 65536

-- `out` with s in place of its bytes from `at` on.
abbrev pub written : List ℕ → ℕ → List ℕ → List ℕ
written out at s = take at out ++ s ++ drop (at + length s) out

-- `out` begins with the text p, which ends at `at`, and then has what `out₀` has there.
pub record Holds (out₀ p out : List ℕ) (at : ℕ) : Type 0 where
  pub same : out ≡ p ++ drop (length p) out₀
  pub ends : at ≡ length p
  pub long : length out ≡ length out₀
