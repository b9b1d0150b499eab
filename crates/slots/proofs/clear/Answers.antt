use mathlib.Core.Path.{◌∙◌}
use borrow.Author.Rules.{rules}
use Rattle.folder.proofs.FillLaws.{fill-whole}
use Rattle.slots.specs.Slots.{no_node}
use Rattle.slots.proofs.clear.Goals as goal

pub returns : goal.returns
returns c = c.fill.ensures (λ q. no_node) (λ i t l p. search rules) ∙ fill-whole _ c.args.row.now
