use mathlib.Core.Path.{◌∙◌, ap}
use Prim.Native.Nat.{ℕ, ◌+◌}
use lib.IntN.{pos}
use lib.ListN.{length, get_or}
use borrow.Author.Rules.{rules}
use Rattle.folder.specs.Contents.{signed_field}
use Rattle.folder.specs.Scan.{all}
use Rattle.whole.specs.Order.{eq_z}
use Rattle.slots.proofs.Fields.{label-tested}
use Rattle.slots.proofs.label_is.Goals as goal

pub returns : goal.returns
returns c =
    c.all.ensures (λ v. eq_z (signed_field c.node_size-size.result c.args.nb.now c.args.n (6 + v)) (get_or c.args.x.now v (pos 0))) (λ v t l p. search rules)
    ∙ ap (λ (s : ℕ). all (λ v. eq_z (signed_field s c.args.nb.now c.args.n (6 + v)) (get_or c.args.x.now v (pos 0))) (length c.args.x.now)) c.node_size-size.ensures.0
    ∙ label-tested c.args.nb.now c.args.n c.args.x.now
