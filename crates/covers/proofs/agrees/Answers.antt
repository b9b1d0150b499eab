use Rattle.std.proofs.Common.{rules}
use Rattle.covers.specs.Covers.{same_at, agrees_in}
use Rattle.covers.proofs.CoverLaws.{field-by}
use Rattle.covers.proofs.agrees.Goals as goal

pub returns : goal.returns
unfolding agrees_in
returns c =
    let e = field-by _ _ _ _ c.node_size.ensures.0 c.field-t.ensures.0 in
    c.all.ensures (same_at c.args.vars c.args.nb.now c.args.k c.args.n) (λ v t l p. search rules)
