use mathlib.Core.Path.{ap, ◌∙◌}
use Rattle.folder.specs.Contents.{field4}
use Rattle.graph.specs.Simulation.{node_size}
use Rattle.graph_rules.proofs.root_value.Goals as goal

pub returns : goal.returns
returns c =
    let size = c.node_size-size.ensures.0 ∙ ap node_size c.variable_count.ensures.0 in
    c.field4.ensures.0 ∙ (λ t. field4 (size t) (c.body.ensures t) 0 2)
