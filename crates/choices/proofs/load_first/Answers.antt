use Rattle.std.proofs.Common.{rules}
use Rattle.expressions.specs.Combinations.{value_in}
use Rattle.choices.specs.Ranged.{label_in}
use Rattle.choices.proofs.Steps.{filled-row}
use Rattle.choices.proofs.load_first.Goals as goal

pub returns : goal.returns
returns c =
    λ m. filled-row (label_in c.args.y.now c.args.t c.args.vals.now) m 0 _ (c.fill.ensures (value_in (label_in c.args.y.now c.args.t c.args.vals.now) m 0) (λ i t l h. search rules)) c.count_of.ensures c.requires.row_len
