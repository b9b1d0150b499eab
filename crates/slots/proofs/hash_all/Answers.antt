use mathlib.Core.Path.{◌∙◌}
use borrow.Author.Rules.{rules}
use Rattle.folder.proofs.FillLaws.{fill-whole}
use Rattle.slots.specs.Nodes.{label_in, high_of}
use Rattle.slots.proofs.RowLaws.{hashed}
use Rattle.slots.proofs.hash_all.Goals as goal

pub returns : goal.returns
returns c =
    hashed c.args.vars c.args.nb.now c.args.hashes.now c.requires.1
    (c.fill.ensures (λ k. high_of (label_in c.args.vars c.args.nb.now k)) (λ i t l p. search rules) ∙ fill-whole _ c.args.hashes.now)
