-- The list of the first n values of a function, a row that begins with them, and the numbers below n that pass a test.
-- Assumes nothing.
use Rattle.std.specs.Prelude.{ℕ, zero, suc, Bool, ◌&&◌, true, false, List, [], ◌∷◌, ◌++◌, drop, eqb}
use Rattle.folder.specs.Pick.{pick}

unfoldable pub tab : {A : Type 0} → ℕ → (ℕ → A) → List A
tab zero f = []
tab (suc n) f = tab n f ++ (f n ∷ [])

-- A row whose first n elements are the values of a function; the others stay.
abbrev pub fill : {A : Type 0} → ℕ → (ℕ → A) → List A → List A
fill n f row = tab n f ++ drop n row

-- Ascending.
unfoldable pub passing : ℕ → (ℕ → Bool) → List ℕ
passing zero test = []
passing (suc n) test = passing n test ++ pick (test n) (n ∷ []) []

unfoldable pub same_list : List ℕ → List ℕ → Bool
same_list [] [] = true
same_list [] (y ∷ ys) = false
same_list (x ∷ xs) [] = false
same_list (x ∷ xs) (y ∷ ys) = eqb x y && same_list xs ys
