use Rattle.wants.proofs.Here.{field-read}
use Rattle.repairs.proofs.Rereading.{reread-none}
use Rattle.repairs.proofs.Answering.{is-expanded, is-covered, is-target, is-waiting, repair-by}
use mathlib.Core.Path.{refl}
use native.Mathlib.Omega.{arith}
use Rattle.repairs.proofs.repair_of.Goals as goal

pub field-kind-requires : goal.field-kind-requires
field-kind-requires c = (omega (arith, c.node_size-size.ensures.2), omega (arith, c.requires.n_lt_nodes, c.requires.standing.held.kept.few), omega arith)

pub repair_expanded-requires : goal.repair_expanded-requires
repair_expanded-requires c = let k = is-expanded _ _ _ _ c.requires.n_lt_nodes (field-read _ _ _ _ c.variable_count.ensures.0 c.node_size-size.ensures.0 c.field-kind.ensures.0) c.if-kind-eq-EXPANDED.true in record { standing = c.requires.standing; parent_right = c.requires.parent_right; n_lt_nodes = (c.requires.n_lt_nodes, k); n_value = λ a. c.requires.n_value a k }

pub returns-then-kind-eq-EXPANDED : goal.returns-then-kind-eq-EXPANDED
returns-then-kind-eq-EXPANDED c = let k = is-expanded _ _ _ _ c.requires.n_lt_nodes (field-read _ _ _ _ c.variable_count.ensures.0 c.node_size-size.ensures.0 c.field-kind.ensures.0) c.if-kind-eq-EXPANDED.true in record { result_value = repair-by c.requires.standing.held c.requires.n_lt_nodes k c.repair_expanded.ensures.result_value; reread = c.repair_expanded.ensures.reread }

pub repair_covered-requires : goal.repair_covered-requires
repair_covered-requires c = record { standing = c.requires.standing; n_lt_nodes = (c.requires.n_lt_nodes, is-covered _ _ _ _ c.requires.n_lt_nodes (field-read _ _ _ _ c.variable_count.ensures.0 c.node_size-size.ensures.0 c.field-kind.ensures.0) c.if-kind-eq-COVERED.true) }

pub returns-then-kind-eq-COVERED : goal.returns-then-kind-eq-COVERED
returns-then-kind-eq-COVERED c = record { result_value = repair-by c.requires.standing.held c.requires.n_lt_nodes (is-covered _ _ _ _ c.requires.n_lt_nodes (field-read _ _ _ _ c.variable_count.ensures.0 c.node_size-size.ensures.0 c.field-kind.ensures.0) c.if-kind-eq-COVERED.true) c.repair_covered.ensures; reread = reread-none c.requires.standing.read }

pub returns-then-kind-eq-TARGET : goal.returns-then-kind-eq-TARGET
returns-then-kind-eq-TARGET c = record { result_value = repair-by c.requires.standing.held c.requires.n_lt_nodes (is-target _ _ _ _ c.requires.n_lt_nodes (field-read _ _ _ _ c.variable_count.ensures.0 c.node_size-size.ensures.0 c.field-kind.ensures.0) c.if-kind-eq-TARGET.true) c.repair_target.ensures; reread = reread-none c.requires.standing.read }

pub returns : goal.returns
returns c = record { result_value = repair-by c.requires.standing.held c.requires.n_lt_nodes (is-waiting _ _ _ _ c.requires.n_lt_nodes (field-read _ _ _ _ c.variable_count.ensures.0 c.node_size-size.ensures.0 c.field-kind.ensures.0) c.if-kind-eq-EXPANDED.false c.if-kind-eq-COVERED.false c.if-kind-eq-TARGET.false) refl; reread = reread-none c.requires.standing.read }
