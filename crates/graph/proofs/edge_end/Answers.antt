use Rattle.std.proofs.Common.{rules}
use Rattle.graph.proofs.EdgeLaws.{edge-is}
use Rattle.graph.proofs.edge_end.Goals as goal

pub returns-clause-at : goal.returns-clause-at
returns-clause-at c = λ m e.
    edge-is m _ _ _ e c.u16_at-command.ensures.0 c.count_of.ensures c.field-branches.ensures.0 (c.edge_size.ensures.0 m e) (c.all-lead.ensures _ (λ b t l p. search rules)) c.then_some.ensures
