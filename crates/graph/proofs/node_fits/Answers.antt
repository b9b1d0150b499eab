use Rattle.std.proofs.Common.{rules}
use Rattle.graph.proofs.NodeLaws.{node-is}
use Rattle.graph.proofs.node_fits.Goals as goal

pub returns : goal.returns
returns c = λ m g h.
    node-is h _ c.node_size-size.ensures.0 c.field-kind.ensures.0 c.field-cover.ensures.0 c.field4-value.ensures.0 c.field-edges.ensures.0 c.field-set.ensures.0 (c.all-values.ensures _ (λ v t l p. search rules))
