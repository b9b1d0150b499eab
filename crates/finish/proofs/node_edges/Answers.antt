use Rattle.wants.proofs.Here.{field-read}
use Rattle.finish.proofs.OwnLaws.{is-expanded, own-none}
use Rattle.finish.proofs.node_edges.Goals as goal

pub expanded_edges-requires : goal.expanded_edges-requires
expanded_edges-requires c = record { fits = c.requires; n_value = is-expanded _ _ _ (field-read _ _ _ _ c.variable_count.ensures.0 c.node_size-size.ensures.0 c.field.ensures.0) c.if-field-eq-EXPANDED.true }

pub returns-else-field-eq-EXPANDED : goal.returns-else-field-eq-EXPANDED
returns-else-field-eq-EXPANDED c = own-none _ _ _ (field-read _ _ _ _ c.variable_count.ensures.0 c.node_size-size.ensures.0 c.field.ensures.0) c.if-field-eq-EXPANDED.false _
