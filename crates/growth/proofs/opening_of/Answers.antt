use mathlib.Core.Path.{ap, ◌∙◌}
use native.Mathlib.Nat.{mul-le-mul}
use native.Mathlib.Omega.{arith}
use lib.IntN.{ℤ, pos}
use Rattle.whole.specs.Order.{eq_z}
use Rattle.folder.specs.Contents.{count_of}
use Rattle.folder.proofs.Signed.{back}
use Rattle.model.proofs.Limits.{limits}
use Rattle.repairs.proofs.Linked.{node-here}
use Rattle.growth.proofs.Opening.{opening-reach, opening-many, opening-expand, opening-long}
use borrow.Author.Rules.{rules}
use Rattle.growth.proofs.opening_of.Goals as goal

pub state_of-requires : goal.state_of-requires
state_of-requires c = record { node_here = node-here c.requires.held c.requires.n_lt_nodes; most_expressions_in_bounds = search rules }

pub returns-then-equal : goal.returns-then-equal
returns-then-equal c = opening-reach c.requires.held c.requires.lent c.requires.n_lt_nodes c.state_of.ensures c.body.ensures c.field-target.ensures.0 c.value_at.ensures (c.equal.ensures ∙ ap (λ (z : ℤ). eq_z z (pos 1)) (back c.value_at.type_inv)) c.if-equal.true

pub cost_of-cost-requires : goal.cost_of-cost-requires
cost_of-cost-requires c =
    let e = c.count_of.ensures ∙ ap (count_of 4) c.body-cs.ensures in
    omega (arith, (limits c.requires.held.model.folder).commands)

pub overflow_add-count : goal.overflow_add-count
overflow_add-count c = omega (arith, c.requires.held.kept.few, c.cost_of-cost.ensures.2)

pub overflow_mul-len : goal.overflow_mul-len
overflow_mul-len c = omega (arith, mul-le-mul c.node_size-size.ensures.2 c.cost_of-cost.ensures.2)

pub overflow_add-len : goal.overflow_add-len
overflow_add-len c = omega (arith, mul-le-mul c.node_size-size.ensures.2 c.cost_of-cost.ensures.2, c.cost_of-cost.ensures.3)

pub overflow_add-len-2 : goal.overflow_add-len-2
overflow_add-len-2 c = omega (arith, mul-le-mul c.node_size-size.ensures.2 c.cost_of-cost.ensures.2, c.cost_of-cost.ensures.3, c.requires.lent.short, c.requires.lent.limit)

pub returns-then-count-gt-MOST_NODES : goal.returns-then-count-gt-MOST_NODES
returns-then-count-gt-MOST_NODES c = opening-many c.requires.held c.requires.lent c.requires.n_lt_nodes c.state_of.ensures c.body.ensures c.field-target.ensures.0 c.value_at.ensures (c.equal.ensures ∙ ap (λ (z : ℤ). eq_z z (pos 1)) (back c.value_at.type_inv)) c.if-equal.false c.body-cs.ensures c.count_of.ensures c.cost_of-cost.ensures.0 c.cost_of-cost.ensures.1 (omega arith)

pub returns-then-len-longest : goal.returns-then-len-longest
returns-then-len-longest c = opening-long c.requires.held c.requires.lent c.requires.n_lt_nodes c.state_of.ensures c.body.ensures c.field-target.ensures.0 c.value_at.ensures (c.equal.ensures ∙ ap (λ (z : ℤ). eq_z z (pos 1)) (back c.value_at.type_inv)) c.if-equal.false c.body-cs.ensures c.count_of.ensures c.cost_of-cost.ensures.0 c.cost_of-cost.ensures.1 (omega arith) c.variable_count.ensures.0 c.node_size-size.ensures.0 (omega arith)

pub returns : goal.returns
returns c = opening-expand c.requires.held c.requires.lent c.requires.n_lt_nodes c.state_of.ensures c.body.ensures c.field-target.ensures.0 c.value_at.ensures (c.equal.ensures ∙ ap (λ (z : ℤ). eq_z z (pos 1)) (back c.value_at.type_inv)) c.if-equal.false c.body-cs.ensures c.count_of.ensures c.cost_of-cost.ensures.0 c.cost_of-cost.ensures.1 (omega arith) c.variable_count.ensures.0 c.node_size-size.ensures.0 (omega arith)
