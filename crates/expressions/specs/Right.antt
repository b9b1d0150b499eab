-- Rows 5 and 6 as rules, in document 01's words. (Rules.antt has their tests.)
-- Assumes nothing.
use Rattle.std.specs.Prelude.{ℕ, ◌<◌, ◌≤◌, ◌≡◌, ◌⊎◌, ◌≤ℤ◌}
use Rattle.expressions.specs.Entries.{Entries, number_form, truth_form}
use Rattle.expressions.specs.Ranges.{range_of, limits}
use Rattle.expressions.specs.Rules.{deepest, depth_of}
use Rattle.expressions.specs.declared.NumberForm.{NumberForm}
use Rattle.expressions.specs.declared.NumberForm.TheVariants.{Constant, Variable, Binary, If, NoNumber}
use Rattle.expressions.specs.declared.TruthForm.{TruthForm}
use Rattle.expressions.specs.declared.TruthForm.TheVariants.{Compare, Not, Joined, Always, NoTruth}
use Rattle.expressions.specs.declared.Range.{Range}

module _ (x : Entries) where
  -- The sorts: operations 0 to 7 give a number, 8 to 14 a truth. A missing entry is neither.
  pub record IsNumber (e : ℕ) : Type 0 where
    pub there : e < x.count
    pub sort : x.operation e ≤ 7

  pub record IsTruth (e : ℕ) : Type 0 where
    pub there : e < x.count
    pub sort : 8 ≤ x.operation e
    pub known : x.operation e ≤ 14

  -- A part is lower and of the right sort; unused fields are 0.
  abbrev pub NumberPart : ℕ → ℕ → Type 0
  NumberPart e p = (p < e) × IsNumber p

  abbrev pub TruthPart : ℕ → ℕ → Type 0
  TruthPart e p = (p < e) × IsTruth p

  abbrev pub ThirdUnused : ℕ → Type 0
  ThirdUnused e = x.third e ≡ 0

  abbrev pub SecondUnused : ℕ → Type 0
  SecondUnused e = (x.second e ≡ 0) × ThirdUnused e

  module _ (variables : ℕ) (e : ℕ) where
    abbrev pub NumberRight : NumberForm → Type 0
    NumberRight (Constant z) = SecondUnused e
    NumberRight (Variable i) = (i < variables) × SecondUnused e
    NumberRight (Binary k p q) = (NumberPart e p × NumberPart e q) × ThirdUnused e
    NumberRight (If c p q) = TruthPart e c × (NumberPart e p × NumberPart e q)
    NumberRight NoNumber = ⊥

    abbrev pub TruthRight : TruthForm → Type 0
    TruthRight (Compare k p q) = (NumberPart e p × NumberPart e q) × ThirdUnused e
    TruthRight (Not p) = TruthPart e p × SecondUnused e
    TruthRight (Joined k p q) = (TruthPart e p × TruthPart e q) × ThirdUnused e
    TruthRight Always = (x.first e ≡ 0) × SecondUnused e
    TruthRight NoTruth = ⊥

    -- Row 5: a known operation, its variable and parts, its unused fields; and the depth.
    pub record EntryRight : Type 0 where
      pub form : NumberRight (number_form x e) ⊎ TruthRight (truth_form x e)
      pub depth : depth_of x e ≤ deepest

-- A range stays in another.
pub record Inside (a b : Range) : Type 0 where
  pub low : b.low ≤ℤ a.low
  pub high : a.high ≤ℤ b.high

-- Row 6.
abbrev pub RangeRight : Entries → (ℕ → Range) → ℕ → Type 0
RangeRight x bound e = Inside (range_of x bound e) limits
