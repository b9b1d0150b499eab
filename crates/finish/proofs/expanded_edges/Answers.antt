use Rattle.wants.proofs.Here.{field-read}
use Rattle.finish.proofs.OwnLaws.{few-commands, children-fit, edges_fit, own-laid}
use Rattle.finish.proofs.expanded_edges.Goals as goal

pub put_edges-requires : goal.put_edges-requires
put_edges-requires c = let o = field-read _ _ _ _ c.variable_count.ensures.0 c.node_size-size.ensures.0 c.field-child.ensures.0 in record { commands_le_most_commands = (few-commands c.requires.fits c.requires.n_value c.state_of.ensures c.body-cs.ensures c.count_of-commands.ensures o, children-fit c.requires.fits c.requires.n_value c.state_of.ensures c.body-cs.ensures c.count_of-commands.ensures o); commands_in_bounds = edges_fit c.requires.fits c.requires.n_value c.state_of.ensures c.body-cs.ensures c.count_of-commands.ensures o }

pub returns : goal.returns
returns c =
    own-laid c.requires.fits c.requires.n_value c.state_of.ensures c.body-cs.ensures c.count_of-commands.ensures
    (field-read _ _ _ _ c.variable_count.ensures.0 c.node_size-size.ensures.0 c.field-child.ensures.0) c.put_edges.ensures
