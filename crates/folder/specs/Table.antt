-- Document 01, "Calls and refusals": a table of causes. The first row with a broken place refuses, at its lowest broken
-- place.
-- Assumes nothing.
use Rattle.std.specs.Prelude.{ℕ, ◌<◌, ◌≡◌, Bool, true, false, ◌&&◌, List, [], ◌∷◌, ltb, Result, Ok, Err, ⊤}
use Rattle.folder.specs.Pick.{pick}
use Rattle.folder.specs.Scan.{first_bad}
use Rattle.folder.specs.declared.Refusal.{Refusal}
use Rattle.folder.specs.declared.Cause.{Cause}

-- What a check answers: acceptance, or a refusal.
abbrev pub Outcome : Type 0
Outcome = Result ⊤ Refusal

-- The refusal with this number and these two places; the second is 0 (document 02, 2.2: for all but 19 and 21).
abbrev pub refusal_at : ℕ → ℕ → ℕ → Refusal
refusal_at n p s = record { number = n; place = p; second = s }

abbrev pub refusal : ℕ → ℕ → Refusal
refusal n p = refusal_at n p 0

abbrev pub refused : ℕ → ℕ → Outcome
refused n p = Err (refusal n p)

-- Document 01's number of an outcome, and the two places returned with it. Acceptance has none: 0.
abbrev pub outcome_number : Outcome → ℕ
outcome_number (Ok _) = 0
outcome_number (Err r) = r.number

abbrev pub places : Refusal → List ℕ
places r = r.place ∷ r.second ∷ []

abbrev pub no_places : List ℕ
no_places = 0 ∷ 0 ∷ []

abbrev pub outcome_places : Outcome → List ℕ
outcome_places (Ok _) = no_places
outcome_places (Err r) = places r

-- A row: places 0 to count − 1, the test of each, and the refusal that a broken one gives.
pub record Row : Type 0 where
  pub count : ℕ
  pub ok : ℕ → Bool
  pub gives : ℕ → Refusal

-- A row of one number, whose places are returned with it; and one with a single test, and a place that is given.
abbrev pub row : ℕ → ℕ → (ℕ → Bool) → Row
row number count ok = record { count = count; ok = ok; gives = refusal number }

abbrev pub single : ℕ → ℕ → Bool → Row
single number place ok = record { count = 1; ok = λ _. ok; gives = λ _. refusal number place }

-- Rows whose rules are finished for one place before the next: the rules of a place, each with its number, in order, and
-- with the second place that it returns if it is broken.
pub record Rule : Type 0 where
  pub number : ℕ
  pub holds : Bool
  pub second : ℕ

abbrev pub rule_at : ℕ → Bool → ℕ → Rule
rule_at n b s = record { number = n; holds = b; second = s }

abbrev pub rule : ℕ → Bool → Rule
rule n b = rule_at n b 0

unfoldable pub all_rules : List Rule → Bool
all_rules [] = true
all_rules (r ∷ rs) = r.holds && all_rules rs

abbrev pub cause : ℕ → ℕ → Cause
cause n s = record { number = n; second = s }

-- The first broken one, by its number and second place; 0 and 0 if none is.
unfoldable pub first_broken : List Rule → Cause
first_broken [] = cause 0 0
first_broken (r ∷ rs) = pick r.holds (first_broken rs) (cause r.number r.second)

abbrev pub refusal_by : Cause → ℕ → Refusal
refusal_by c p = refusal_at c.number p c.second

abbrev pub refused_by : Cause → ℕ → Outcome
refused_by c p = Err (refusal_by c p)

abbrev pub group : ℕ → (ℕ → List Rule) → Row
group count rules = record { count = count; ok = λ p. all_rules (rules p); gives = λ p. refusal_by (first_broken (rules p)) p }

abbrev pub row_at : Row → ℕ → Outcome → Outcome
row_at r p rest = pick (ltb p r.count) (Err (r.gives p)) rest

-- What a table answers.
unfoldable pub outcome : List Row → Outcome
outcome [] = Ok tt
outcome (r ∷ rs) = let rest = outcome rs in row_at r (first_bad r.ok r.count) rest

-- ---- what an outcome says

-- A row holds at each of its places; and so do all rows.
pub record Holds (r : Row) : Type 0 where
  pub at : (p : ℕ) → p < r.count → r.ok p ≡ true

pub data AllHold : List Row → Type 0 where
  none : AllHold []
  more : {r : Row} {rs : List Row} → Holds r → AllHold rs → AllHold (r ∷ rs)

-- A row is broken and gives f: at its lowest broken place.
pub record BrokenAt (r : Row) (f : Refusal) : Type 0 where
  pub at : ℕ
  pub place : at < r.count
  pub gives : r.gives at ≡ f
  pub broken : r.ok at ≡ false
  pub before : (k : ℕ) → k < at → r.ok k ≡ true

-- A row is broken so, and each row before it holds.
pub data Broken : List Row → Refusal → Type 0 where
  here : {r : Row} {rs : List Row} {f : Refusal} → BrokenAt r f → Broken (r ∷ rs) f
  later : {r : Row} {rs : List Row} {f : Refusal} → Holds r → Broken rs f → Broken (r ∷ rs) f

-- Of a place's rules, the first broken one has this number and second place.
pub data BrokenRule : List Rule → Cause → Type 0 where
  here : {r : Rule} {rs : List Rule} → r.holds ≡ false → BrokenRule (r ∷ rs) (cause r.number r.second)
  later : {r : Rule} {rs : List Rule} {c : Cause} → r.holds ≡ true → BrokenRule rs c → BrokenRule (r ∷ rs) c
