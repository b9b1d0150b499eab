use mathlib.Core.Path.{◌≡◌}
use Rattle.folder.specs.Table.{all_rules}
use Rattle.folder.proofs.ScanLaws.{Scanned}
use Rattle.model.specs.Model.{model_of}
use Rattle.graph.specs.Simulation.{node_count, simulation_of}
use Rattle.graph.specs.Table.{node_rules}
use Rattle.graph.specs.Walks.{starts_at}
use Rattle.graph_rules.proofs.all_nodes.Given as goal

abbrev pub invariant-loop-n : goal.invariant-loop-n
invariant-loop-n l = Scanned (λ p. all_rules (node_rules (model_of l.m) (simulation_of (model_of l.m) l.g) p)) (node_count (model_of l.m) l.g) l.n × (l.at ≡ starts_at (model_of l.m) l.g l.n)
