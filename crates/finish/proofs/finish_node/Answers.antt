use Rattle.finish.proofs.OwnLaws.{ended, record-room}
use Rattle.finish.proofs.finish_node.Goals as goal

pub put_record-requires : goal.put_record-requires
put_record-requires c = record { vars_le_most_variables = (c.variable_count-vars.ensures.1, c.requires.here.low, c.node_edges-count.ensures.few); whole = record-room c.requires c.variable_count-vars.ensures.0 c.node_edges-count.ensures }

pub returns : goal.returns
returns c = ended c.requires c.variable_count-vars.ensures.0 c.node_edges-count.ensures c.put_record.ensures
