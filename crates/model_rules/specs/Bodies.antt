-- What a function reads of a model folder, and what it is stated over.
-- Assumes nothing.
use Rattle.std.specs.Prelude.{List, ℕ}
use Rattle.folder.specs.Contents.{count_of}
use Rattle.expressions.specs.declared.Range.{Range}
use Rattle.ranges.specs.Settled.{Settled}
use Rattle.model.specs.Model.{Model, model_in}
use Rattle.model_rules.specs.declared.parts.Bodies.{Bodies}

-- The model that the five bodies hold.
abbrev pub model_held : Bodies → Model
model_held b = model_in b.terms.now b.variables.now b.expressions.now b.commands.now b.branches.now

-- The row holds the ranges of all entries of the expression body x, over the variable body y.
abbrev pub Held : List ℕ → List ℕ → List Range → Type 0
Held x y row = Settled x y row (count_of 8 x)
