use Rattle.graph.specs.Limits.{most_nodes}
use Rattle.index.proofs.TwinLaws.{seen_none}
use Rattle.index.proofs.list_twins.Goals as goal

pub list_all-requires : goal.list_all-requires
list_all-requires c = record { indexed = c.requires.indexed; nb_in_bounds = c.requires.nb_in_bounds; seen = seen_none c.args.vars c.args.nb.now most_nodes c.requires.indexed.nodes-few }
