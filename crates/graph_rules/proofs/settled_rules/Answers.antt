use native.Mathlib.Omega.{arith}
use Rattle.graph_rules.proofs.settled_rules.Goals as goal

pub settle_state-requires : goal.settle_state-requires
settle_state-requires c = record { node_of = c.requires.node_of; flagged_settled = c.settle_label.ensures.flagged_settled; most_expressions_in_bounds = omega (arith, c.state-2-1.given) }

pub asked_rules-requires : goal.asked_rules-requires
asked_rules-requires c = record {
  askable = record {
    node = c.requires.node_of;
    kept = c.requires.n_value;
    masked = c.requires.masks_of;
    read = record { flagged = c.settle_label.ensures.label_flagged; stated = c.settle_state.ensures; known-long = omega (arith, c.known-2-1.given); state-long = omega (arith, c.state-4-1.given) };
  };
  at_value = c.requires.at_value;
  firsts_of = c.requires.firsts_of;
}
