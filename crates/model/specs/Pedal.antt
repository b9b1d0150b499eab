-- Document 01's pedal example: its model folder.
-- Assumes nothing.
use Rattle.std.specs.Prelude.{ℕ, ◌+◌, ◌*◌, ◌/◌, ◌%◌, List, [], ◌∷◌, ◌++◌, length}
use Rattle.folder.specs.Fields.{field_limit}

-- Little-endian fields of 2 and of 4 bytes, and a list of the former.
abbrev pub two : ℕ → List ℕ
two n = n % 256 ∷ n / 256 % 256 ∷ []

abbrev pub four : ℕ → List ℕ
four n = two (n % field_limit) ++ two (n / field_limit)

abbrev pub fields : List ℕ → List ℕ
fields [] = []
fields (n ∷ ns) = two n ++ fields ns

-- A folder of these bodies, the first of which starts at `at`: its contents, and the bodies.
abbrev pub contents_of : ℕ → List (List ℕ) → List ℕ
contents_of at [] = []
contents_of at (b ∷ bs) = four at ++ four (length b) ++ contents_of (at + length b) bs

abbrev pub joined : List (List ℕ) → List ℕ
joined [] = []
joined (b ∷ bs) = b ++ joined bs

abbrev pub folder_of : List (List ℕ) → List ℕ
folder_of bs = contents_of (length bs * 8) bs ++ joined bs

-- a in 0..3 and d in 0..1, both initially 0; D 10; target a = 2.
-- Command 0, a < 2: 9: a' = 3, d' = d; 1: a' = smaller(a + 1, 2), d' = d. Command 1, a = 0: 10: a' = a, d' = 1 − d.
abbrev pub pedal_model : List ℕ
pedal_model =
    folder_of (
    fields (10 ∷ 8 ∷ [])
    ∷ fields (0 ∷ 3 ∷ 0 ∷ 0 ∷ 1 ∷ 0 ∷ [])
    ∷ fields (1 ∷ 0 ∷ 0 ∷ 0 ∷ 1 ∷ 1 ∷ 0 ∷ 0 ∷ 0 ∷ 2 ∷ 0 ∷ 0 ∷ 0 ∷ 3 ∷ 0 ∷ 0 ∷ 0 ∷ 0 ∷ 0 ∷ 0 ∷ 0 ∷ 1 ∷ 0 ∷ 0 ∷ 9 ∷ 0 ∷ 2 ∷ 0 ∷ 8 ∷ 0 ∷ 4 ∷ 0 ∷ 8 ∷ 0 ∷ 2 ∷ 0 ∷ 2 ∷ 0 ∷ 5 ∷ 0 ∷ 5 ∷ 9 ∷ 2 ∷ 0 ∷ 3 ∷ 5 ∷ 1 ∷ 0 ∷ [])
    ∷ fields (6 ∷ 2 ∷ 7 ∷ 1 ∷ [])
    ∷ fields (9 ∷ 3 ∷ 1 ∷ 1 ∷ 10 ∷ 1 ∷ 10 ∷ 0 ∷ 11 ∷ [])
    ∷ []
    )
