use Rattle.repairs.proofs.Linked.{node-here, all_read, end-small}
use Rattle.repairs.proofs.Rereading.{reread-none, children-long, reread-by}
use Rattle.repairs.proofs.Answering.{unasked, expanded-repair, results-none, tracks-none, tracks-some}
use mathlib.Core.Path.{refl}
use Rattle.repairs.proofs.repair_expanded.Goals as goal

pub expanded_wants-requires : goal.expanded_wants-requires
expanded_wants-requires c = record { node_here = node-here c.requires.standing.held c.requires.n_lt_nodes.0; masks_of = c.requires.standing.masked; all_read = all_read c.requires.standing.held c.requires.n_lt_nodes.0 c.requires.n_lt_nodes.1 c.requires.standing.read; n_bound = end-small c.requires.standing.held c.requires.n_lt_nodes.0 c.requires.n_lt_nodes.1; n_value = unasked _ _ _ _ c.requires.n_lt_nodes.0 c.requires.n_value }

pub mark_read-requires : goal.mark_read-requires
mark_read-requires c =
    let e = c.in-Ok.ensures.children_value in
    let h = children-long c.requires.standing.held c.requires.n_lt_nodes.0 c.requires.n_lt_nodes.1 c.variable_count.ensures.0 e.0 e.1 in
    record { vars_le_most_variables = (c.variable_count.ensures.1, h.0, h.1); end_in_bounds = h.2 }

pub returns-in-Ok : goal.returns-in-Ok
returns-in-Ok c =
    let e = c.in-Ok.ensures.children_value in
    record { result_value = expanded-repair c.requires.standing.held c.requires.n_lt_nodes.0 c.requires.n_lt_nodes.1 c.in-Ok.ensures.wanted_value (tracks-none _); reread = reread-by c.requires.standing.held c.requires.n_lt_nodes.0 c.requires.n_lt_nodes.1 c.variable_count.ensures.0 e.0 e.1 c.requires.standing.read c.requires.parent_right (results-none c.requires.standing.held c.requires.n_lt_nodes.0 c.requires.n_lt_nodes.1 c.in-Ok.ensures.wanted_value refl) c.mark_read.ensures }

pub returns-in-Err : goal.returns-in-Err
returns-in-Err c = record { result_value = expanded-repair c.requires.standing.held c.requires.n_lt_nodes.0 c.requires.n_lt_nodes.1 c.in-Err.ensures.wanted_value (tracks-some _ _); reread = reread-none c.requires.standing.read }
