use mathlib.Core.Path.{◌≡◌, sym, ◌∙◌}
use borrow.Author.Tests.{eq-eqb, ne_eqb}
use Rattle.model.specs.Model.{model_of}
use Rattle.graph.specs.Simulation.{node_field}
use Rattle.graph.proofs.NodeLaws.{node-field}
use Rattle.graph.proofs.CountLaws.{count-start, count-one, count_none, count-over}
use Rattle.graph.proofs.kind_count.Goals as goal
use Rattle.graph.proofs.kind_count.Goals.{After-field, then-field-k, else-field-k}

-- the code reads node i's kind
kind : (c : After-field) → c.field.result ≡ node_field (model_of c.args.m.now) c.args.g.now c.loop-i.i 0
kind c = node-field _ _ _ 0 c.variable_count.ensures.0 c.node_size-size.ensures.0 c.body-ns.ensures c.field.ensures.0

pub loop-i-init : goal.loop-i-init
loop-i-init c = count-start _ _

pub loop-i-preserved : goal.loop-i-preserved
loop-i-preserved c =
    let e = kind (goal.at.loop-i-preserved c).After-field in
    elim c.if-field-k.branch [
      | then-field-k w ↦ count-one c.loop-i.invariant c.loop-i-test.true (eq-eqb _ _ (sym e ∙ w.if-field-k.true)) w.total-is
      | else-field-k w ↦ count_none c.loop-i.invariant c.loop-i-test.true (ne_eqb _ _ (λ h. w.if-field-k.false (e ∙ h))) w.total-is
    ]

pub returns : goal.returns
returns c = count-over c.loop-i.invariant c.loop-i-test.false c.node_count-n.ensures
