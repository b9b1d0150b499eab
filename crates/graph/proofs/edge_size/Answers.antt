use native.Mathlib.Omega.{arith}
use Rattle.graph.specs.Simulation.{edge_size}
use Rattle.graph.proofs.edge_size.Goals as goal

pub returns : goal.returns
unfolding edge_size
returns c = ((λ m e. cc), omega arith)
