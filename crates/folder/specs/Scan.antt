-- The lowest place at which a test fails.
-- Assumes nothing.
use Rattle.std.specs.Prelude.{ℕ, zero, suc, Bool, eqb}
use Rattle.folder.specs.Pick.{pick}

-- r is the lowest place below n at which ok fails, or n: the same for one place more.
abbrev pub one_more : (ℕ → Bool) → ℕ → ℕ → ℕ
one_more ok n r = pick (eqb r n) (pick (ok n) (suc n) n) r

-- The lowest place below n at which ok fails, or n.
unfoldable pub first_bad : (ℕ → Bool) → ℕ → ℕ
first_bad ok zero = zero
first_bad ok (suc n) = one_more ok n (first_bad ok n)

-- ok passes at each place below n.
abbrev pub all : (ℕ → Bool) → ℕ → Bool
all ok n = eqb (first_bad ok n) n
