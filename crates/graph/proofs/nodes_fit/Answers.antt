use Rattle.graph.specs.Rules.{nodes_fit}
use Rattle.graph.proofs.nodes_fit.Goals as goal

pub returns : goal.returns
unfolding nodes_fit
returns c = λ m g p q. cc
