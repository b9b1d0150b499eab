use Rattle.labels.specs.Agree.{agrees_at}
use Rattle.labels.proofs.Nodes.agrees_at.Goals as goal

pub returns : goal.returns
unfolding agrees_at
returns c = cc
