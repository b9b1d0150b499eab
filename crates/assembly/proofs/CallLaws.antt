-- Row 35 as the code tests it.
-- Assumes nothing.
use Prim.Native.Nat.{ℕ, ◌<◌}
use mathlib.Core.Path.{◌≡◌, refl}
use mathlib.Core.Logic.{◌↔◌}
use mathlib.Core.Bool.{Bool, true, false}
use mathlib.Core.List.{List, [], ◌∷◌}
use native.Mathlib.Omega.{arith}
use borrow.Author.Tests.{le-leb, leb-true}
use lib.Dec.{eqb}
use Rattle.folder.specs.Pick.{pick}
use Rattle.folder.specs.Scan.{first_bad}
use Rattle.folder.specs.Table.{Row, row, single, outcome, AllHold, none, more}
use Rattle.folder.specs.declared.Refusal.{Refusal}
use Rattle.std.specs.Prelude.{Ok, Err}
use Rattle.model.specs.Model.{Model}
use Rattle.assembly.specs.Build.{build_rows, BuildRight}

head-holds : {r : Row} {rs : List Row} → AllHold (r ∷ rs) → (k : ℕ) → k < r.count → r.ok k ≡ true
head-holds (more h t) = h.at

both : (s : Bool) {a b : Bool} → a ≡ true → b ≡ true → pick s a b ≡ true
both true p q = p
both false p q = q

-- Two tests one after the other, at places 0 and 1, are a row of two places.
abbrev pub two : ℕ → Bool → Bool → Row
two n a b = row n 2 (λ p. pick (eqb p 0) a b)

pub pair-stops : (n : ℕ) (a b : Bool) {f : Refusal} → Err f ≡ outcome (single n 0 a ∷ []) → Err f ≡ outcome (two n a b ∷ [])
unfolding outcome first_bad
pair-stops n true b e = cc
pair-stops n false b e = e

pub pair-goes-on : (n : ℕ) (a b : Bool) → Ok tt ≡ outcome (single n 0 a ∷ []) → outcome (single n 1 b ∷ []) ≡ outcome (two n a b ∷ [])
unfolding outcome first_bad
pair-goes-on n true true e = refl
pair-goes-on n true false e = refl
pair-goes-on n false b e = cc

module _ (M : Model) (rounds : ℕ) (out : List ℕ) where
  -- The row asks for its rule.
  pub build-asks : AllHold (build_rows M rounds out) ↔ BuildRight M rounds out
  build-asks = (
    (λ h. record { room = leb-true _ _ (head-holds h 0 (omega arith)); few-rounds = leb-true _ _ (head-holds h 1 (omega arith)) }),
    λ r. more (record { at = λ p _. both (eqb p 0) (le-leb _ _ r.room) (le-leb _ _ r.few-rounds) }) none,
  )
