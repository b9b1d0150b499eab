-- The entry numbers and the variable's index in a form are those of 2-byte fields: what a list of bytes as numbers does
-- not say of them.
-- Assumes nothing.
use Rattle.std.specs.Prelude.{◌<◌}
use Rattle.folder.specs.Fields.{field_limit}
use Rattle.expressions.specs.declared.NumberForm.{NumberForm}
use Rattle.expressions.specs.declared.NumberForm.TheVariants.{Constant, Variable, Binary, If, NoNumber}
use Rattle.expressions.specs.declared.TruthForm.{TruthForm}
use Rattle.expressions.specs.declared.TruthForm.TheVariants.{Compare, Not, Joined, Always, NoTruth}

abbrev pub SmallN : NumberForm → Type 0
SmallN (Constant z) = Unit {0}
SmallN (Variable i) = i < field_limit
SmallN (Binary k p q) = (p < field_limit) × (q < field_limit)
SmallN (If c p q) = (c < field_limit) × (p < field_limit) × (q < field_limit)
SmallN NoNumber = Unit {0}

abbrev pub SmallT : TruthForm → Type 0
SmallT (Compare k p q) = (p < field_limit) × (q < field_limit)
SmallT (Not p) = p < field_limit
SmallT (Joined k p q) = (p < field_limit) × (q < field_limit)
SmallT Always = Unit {0}
SmallT NoTruth = Unit {0}
