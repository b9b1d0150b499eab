use mathlib.Core.Path.{ap}
use native.Mathlib.Omega.{arith}
use Rattle.folder.specs.Contents.{count_of}
use Rattle.model.proofs.Limits.{limits}
use Rattle.graph_rules.proofs.NodeLaws.{ready_of, written_of, masks-of}
use Rattle.graph_rules.proofs.check_nodes.Goals as goal

pub fill_values-requires : goal.fill_values-requires
fill_values-requires c = record { m_bound = (limits c.requires.valid.folder).variables; g_bound = (c.requires.rows_right.folder.few, c.requires.rows_right.folder.few) }

pub fill_mentions-requires : goal.fill_mentions-requires
fill_mentions-requires c = let e = ap (count_of 8) c.body.ensures in
    let k = (limits c.requires.valid.folder).expressions in record { written = written_of c.requires.valid c.body.ensures; x_bound = omega arith; x_in_bounds = omega arith }

pub all_nodes-requires : goal.all_nodes-requires
all_nodes-requires c = record { rules_ready = ready_of c.requires.valid c.requires.rows_right c.fill_tables.ensures c.fill_values.ensures; masks_of = masks-of _ _ c.body.ensures c.fill_mentions.ensures }
