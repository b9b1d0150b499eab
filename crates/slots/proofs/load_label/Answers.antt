use mathlib.Core.Path.{◌∙◌, ap}
use Prim.Native.Nat.{ℕ, ◌+◌}
use borrow.Author.Rules.{rules}
use Rattle.folder.specs.Contents.{signed_field}
use Rattle.folder.specs.Tab.{fill}
use Rattle.slots.proofs.load_label.Goals as goal

pub returns : goal.returns
returns c =
    c.fill.ensures (λ k. signed_field c.node_size-size.result c.args.nb.now c.args.n (6 + k)) (λ v t l p. search rules)
    ∙ ap (λ (s : ℕ). fill c.args.vars (λ k. signed_field s c.args.nb.now c.args.n (6 + k)) c.args.row.now) c.node_size-size.ensures.0
