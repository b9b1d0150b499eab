use Rattle.graph.specs.Rules.{B1}
use Rattle.folder.proofs.PickLaws.{when-equal, when-unequal}
use Rattle.expand.proofs.Readings.{guards-settled}
use mathlib.Core.Path.{sym, ◌∙◌}
use Rattle.expand.proofs.b1.Goals as goal

pub edges_enabled-requires : goal.edges_enabled-requires
edges_enabled-requires c = record { node_of = c.requires.node_of; at_value = c.requires.at_value; guards_settled = guards-settled c.requires.node_of c.requires.n_value c.requires.state_settled c.requires.n_value_2 (sym c.node_field.ensures.0 ∙ c.if-node_field-eq-EXPANDED.true) }

pub returns-then-node_field-eq-EXPANDED : goal.returns-then-node_field-eq-EXPANDED
unfolding B1
returns-then-node_field-eq-EXPANDED c = when-equal 1 _ c.node_field.ensures.0 c.if-node_field-eq-EXPANDED.true c.edges_enabled.ensures

pub returns-else-node_field-eq-EXPANDED : goal.returns-else-node_field-eq-EXPANDED
unfolding B1
returns-else-node_field-eq-EXPANDED c = when-unequal 1 _ c.node_field.ensures.0 c.if-node_field-eq-EXPANDED.false
