use mathlib.Core.Path.{◌∙◌}
use Rattle.expressions.specs.Entries.{entries_of}
use Rattle.states.proofs.Widening.{too_many}
use Rattle.states.proofs.widen.Goals as goal

pub returns-else-ways-le-MOST_COMBINATIONS : goal.returns-else-ways-le-MOST_COMBINATIONS
returns-else-ways-le-MOST_COMBINATIONS c =
    too_many (entries_of c.args.x.now) c.args.y.now c.args.vals.now c.args.masks.now c.args.state.now c.args.known.now _ _ c.requires (c.mask_at-mask.ensures ∙ c.requires.masked.is _ c.requires.there) c.ways-ways.ensures c.if-ways-le-MOST_COMBINATIONS.false
