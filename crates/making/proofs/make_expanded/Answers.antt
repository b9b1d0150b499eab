use mathlib.Core.Path.{◌∙◌}
use native.Mathlib.Omega.{arith}
use Rattle.building.specs.Moves.{Move, expand}
use Rattle.making.proofs.Moving.{keeps, told_of, in_field, in-marks, record-there}
use Rattle.making.proofs.Expanding.{here, few-commands, born-as, bytes-as, may-put, brood-as, nodes-fit, added-fit, len-fits, count_fits, size_fits, past_fits, past-within, may-begin, one-waits, waiting-fits, there-still, expanded-as}
use Rattle.making.proofs.make_expanded.Goals as goal

pub state_of-requires : goal.state_of-requires
state_of-requires c = record { node_here = here c.requires; most_expressions_in_bounds = omega arith }

pub cost_of-cost-requires : goal.cost_of-cost-requires
cost_of-cost-requires c = few-commands c.requires c.state_of.ensures c.body-cs.ensures c.count_of-commands.ensures

pub put_children-requires : goal.put_children-requires
put_children-requires c =
    let v = may-put c.requires c.state_of.ensures c.body-cs.ensures c.count_of-commands.ensures c.variable_count-vars.ensures.0 c.body.ensures in
    record { vars_nonzero = v.0; commands_bound = v.1.0; commands_in_bounds = v.1.1.0; brood_fits = v.1.1.1 }

pub become_parent-requires : goal.become_parent-requires
become_parent-requires c = let mv : Move = expand c.args.n in let l = (told_of mv c.requires).0 in record { vars_le_most_variables = (c.variable_count-vars.ensures.1, omega (arith, in_field mv c.requires l), omega (arith, (keeps mv c.requires).few)); whole = omega (arith, record-there mv c.requires l c.variable_count-vars.ensures.0, c.nb-1.given) }

pub bounds-marks-n : goal.bounds-marks-n
bounds-marks-n c = let mv : Move = expand c.args.n in in-marks mv c.requires (told_of mv c.requires).0

pub overflow_add-nodes : goal.overflow_add-nodes
overflow_add-nodes c =
    record { fits = count_fits c.requires c.state_of.ensures c.variable_count-vars.ensures.0 c.node_size-size.ensures.0 (born-as c.requires c.state_of.ensures c.body-cs.ensures c.count_of-commands.ensures c.cost_of-cost.ensures.0) (bytes-as c.requires c.state_of.ensures c.body-cs.ensures c.count_of-commands.ensures c.cost_of-cost.ensures.1) }

pub overflow_mul-len : goal.overflow_mul-len
overflow_mul-len c =
    record { fits = nodes-fit c.requires c.state_of.ensures c.variable_count-vars.ensures.0 c.node_size-size.ensures.0 (born-as c.requires c.state_of.ensures c.body-cs.ensures c.count_of-commands.ensures c.cost_of-cost.ensures.0) (bytes-as c.requires c.state_of.ensures c.body-cs.ensures c.count_of-commands.ensures c.cost_of-cost.ensures.1) }

pub overflow_add-len : goal.overflow_add-len
overflow_add-len c =
    record { fits = added-fit c.requires c.state_of.ensures c.variable_count-vars.ensures.0 c.node_size-size.ensures.0 (born-as c.requires c.state_of.ensures c.body-cs.ensures c.count_of-commands.ensures c.cost_of-cost.ensures.0) (bytes-as c.requires c.state_of.ensures c.body-cs.ensures c.count_of-commands.ensures c.cost_of-cost.ensures.1) }

pub overflow_add-len-2 : goal.overflow_add-len-2
overflow_add-len-2 c =
    record { fits = len-fits c.requires c.state_of.ensures c.variable_count-vars.ensures.0 c.node_size-size.ensures.0 (born-as c.requires c.state_of.ensures c.body-cs.ensures c.count_of-commands.ensures c.cost_of-cost.ensures.0) (bytes-as c.requires c.state_of.ensures c.body-cs.ensures c.count_of-commands.ensures c.cost_of-cost.ensures.1) }

pub overflow_mul-end : goal.overflow_mul-end
overflow_mul-end c =
    record { fits = size_fits c.requires c.state_of.ensures c.variable_count-vars.ensures.0 c.node_size-size.ensures.0 (born-as c.requires c.state_of.ensures c.body-cs.ensures c.count_of-commands.ensures c.cost_of-cost.ensures.0) (bytes-as c.requires c.state_of.ensures c.body-cs.ensures c.count_of-commands.ensures c.cost_of-cost.ensures.1) }

pub overflow_add-end : goal.overflow_add-end
overflow_add-end c =
    record { fits = past_fits c.requires c.state_of.ensures c.variable_count-vars.ensures.0 c.node_size-size.ensures.0 (born-as c.requires c.state_of.ensures c.body-cs.ensures c.count_of-commands.ensures c.cost_of-cost.ensures.0) (bytes-as c.requires c.state_of.ensures c.body-cs.ensures c.count_of-commands.ensures c.cost_of-cost.ensures.1) }

pub overflow_sub-end : goal.overflow_sub-end
overflow_sub-end c =
    past-within c.requires c.state_of.ensures c.variable_count-vars.ensures.0 c.node_size-size.ensures.0 (born-as c.requires c.state_of.ensures c.body-cs.ensures c.count_of-commands.ensures c.cost_of-cost.ensures.0) (bytes-as c.requires c.state_of.ensures c.body-cs.ensures c.count_of-commands.ensures c.cost_of-cost.ensures.1)

pub expand-requires : goal.expand-requires
expand-requires c =
    let v = may-begin c.requires c.state_of.ensures c.variable_count-vars.ensures.0 c.node_size-size.ensures.0 (born-as c.requires c.state_of.ensures c.body-cs.ensures c.count_of-commands.ensures c.cost_of-cost.ensures.0) (bytes-as c.requires c.state_of.ensures c.body-cs.ensures c.count_of-commands.ensures c.cost_of-cost.ensures.1) in
    record { n_lt_nodes = v.0; by_index = v.1 }

pub overflow_sub-w : goal.overflow_sub-w
overflow_sub-w c =
    one-waits c.requires c.state_of.ensures c.variable_count-vars.ensures.0 c.node_size-size.ensures.0 (born-as c.requires c.state_of.ensures c.body-cs.ensures c.count_of-commands.ensures c.cost_of-cost.ensures.0) (bytes-as c.requires c.state_of.ensures c.body-cs.ensures c.count_of-commands.ensures c.cost_of-cost.ensures.1)

pub overflow_add-w : goal.overflow_add-w
overflow_add-w c =
    record { fits = waiting-fits c.requires c.state_of.ensures c.variable_count-vars.ensures.0 c.node_size-size.ensures.0 (born-as c.requires c.state_of.ensures c.body-cs.ensures c.count_of-commands.ensures c.cost_of-cost.ensures.0) (bytes-as c.requires c.state_of.ensures c.body-cs.ensures c.count_of-commands.ensures c.cost_of-cost.ensures.1) }

pub grown_work-requires : goal.grown_work-requires
grown_work-requires c =
    there-still c.requires c.state_of.ensures c.variable_count-vars.ensures.0 c.node_size-size.ensures.0 (born-as c.requires c.state_of.ensures c.body-cs.ensures c.count_of-commands.ensures c.cost_of-cost.ensures.0) (bytes-as c.requires c.state_of.ensures c.body-cs.ensures c.count_of-commands.ensures c.cost_of-cost.ensures.1)

pub shape_of-nb : goal.shape_of-nb
shape_of-nb c = c.nb-2-1.given ∙ c.nb-1.given

pub returns : goal.returns
returns c =
    expanded-as c.requires c.state_of.ensures (brood-as c.requires c.state_of.ensures c.body-cs.ensures c.count_of-commands.ensures c.variable_count-vars.ensures.0 c.body.ensures c.put_children.ensures) c.variable_count-vars.ensures.0 c.node_size-size.ensures.0 (born-as c.requires c.state_of.ensures c.body-cs.ensures c.count_of-commands.ensures c.cost_of-cost.ensures.0) (bytes-as c.requires c.state_of.ensures c.body-cs.ensures c.count_of-commands.ensures c.cost_of-cost.ensures.1)
    c.grown_work.ensures c.become_parent.ensures c.expand.ensures
