-- What row 34 asks, and that a model has a variable.
-- Assumes nothing.
use Prim.Native.Nat.{ℕ, ◌/◌, ◌<◌}
use mathlib.Core.Path.{◌≡◌, sym, ◌∙◌}
use mathlib.Core.Logic.{◌↔◌}
use mathlib.Core.Bool.{Bool, true, false}
use mathlib.Core.List.{List, ◌∷◌}
use native.Mathlib.Omega.{arith}
use borrow.Author.Tests.{le-leb, leb-true, eqb-true, eq-eqb}
use lib.Dec.{eqb}
use lib.IntN.{ℤ}
use Rattle.folder.specs.Pick.{pick}
use Rattle.folder.specs.Table.{Row, outcome, AllHold, none, more, Outcome}
use Rattle.folder.proofs.TableLaws.{accepted-asks}
use Rattle.model.specs.Layout.{variable_count, record_size, record_count}
use Rattle.model.specs.Model.{Model}
use Rattle.model.specs.Valid.{Valid}
use Rattle.graph.specs.Simulation.{Simulation}
use Rattle.index.specs.Index.{index_rows, IndexRight}
use Rattle.std.specs.Prelude.{Ok}

head-holds : {r : Row} {rs : List Row} → AllHold (r ∷ rs) → (k : ℕ) → k < r.count → r.ok k ≡ true
head-holds (more h t) = h.at

all-four : (s t u : Bool) {a b c d : Bool} → a ≡ true → b ≡ true → c ≡ true → d ≡ true → pick s a (pick t b (pick u c d)) ≡ true
all-four true t u p q r w = p
all-four false true u p q r w = q
all-four false false true p q r w = r
all-four false false false p q r w = w

module _ (M : Model) (G : Simulation) (s : List ℕ) (b : List ℤ) (a l : List ℕ) where
  -- The row asks for its rule.
  pub index-asks : AllHold (index_rows M G s b a l) ↔ IndexRight M G s b a l
  index-asks = (
    (λ h. record {
      slots-long = eqb-true _ _ (head-holds h 0 (omega arith));
      batch-whole = eqb-true _ _ (head-holds h 1 (omega arith));
      answers-long = leb-true _ _ (head-holds h 2 (omega arith));
      listing-long = leb-true _ _ (head-holds h 3 (omega arith));
    }),
    λ r. more (record { at = λ p m. all-four (eqb p 0) (eqb p 1) (eqb p 2) (eq-eqb _ _ r.slots-long) (eq-eqb _ _ r.batch-whole) (le-leb _ _ r.answers-long) (le-leb _ _ r.listing-long) }) none,
  )

  abbrev answer : Outcome
  answer = outcome (index_rows M G s b a l)

  module _ {o : Outcome} (e : o ≡ answer) where
    -- Accepted, the rows are right.
    pub rows_right : o ≡ (Ok tt) → IndexRight M G s b a l
    rows_right t = (accepted-asks index-asks).0 (sym e ∙ t)

-- The quotient of equal numbers.
pub same_whole : (a b v w : ℕ) → a ≡ b → v ≡ w → a / v ≡ b / w
same_whole a b v w p q = cc

-- A model has a variable.
pub some-variable : {m : List ℕ} → Valid m → 0 < variable_count m
unfolding record_count record_size
some-variable v = (v.folder.records 1 (omega arith)).some
