use mathlib.Core.Path.{◌≡◌, sym, ap, ◌∙◌}
use lib.ListN.{length}
use native.Mathlib.Omega.{arith}
use borrow.Author.Rules.{rules}
use Rattle.model.specs.Model.{model_of}
use Rattle.graph.specs.Simulation.{node_field}
use Rattle.folder.proofs.ContentsLaws.{body-short}
use Rattle.graph.proofs.NodeLaws.{node-field}
use Rattle.graph.proofs.EdgeLaws.{reach-start, reach-found, reach-next, reach-over, reach-left}
use Rattle.graph.proofs.first_bad_edges.Goals as goal
use Rattle.graph.proofs.first_bad_edges.Goals.{After-field}

-- the code reads node i's edge count
counted : (c : After-field) → c.field.result ≡ node_field (model_of c.args.m.now) c.args.g.now c.loop-i.i 4
counted c = node-field _ _ _ 4 c.variable_count.ensures.0 c.node_size-size.ensures.0 c.body-ns.ensures c.field.ensures.0

pub loop-i-init : goal.loop-i-init
loop-i-init c = record { reached = reach-start _ _; within = search rules }

pub walk_edges-requires : goal.walk_edges-requires
walk_edges-requires c = (c.loop-i.invariant.within, omega (arith, body-short c.args.g.now 1, ap length c.body-es.ensures))

pub returns-in_default : goal.returns-in_default
returns-in_default c =
    reach-found _ _ c.body-es.ensures c.node_count-n.ensures c.loop-i.invariant.reached c.loop-i-test.true (counted (goal.at.returns-in_default c).After-field) (sym (c.walk_edges.ensures.at _ c.body-cs.ensures) ∙ c.in_default.is)

pub loop-i-preserved : goal.loop-i-preserved
loop-i-preserved c = record {
  reached = reach-next _ _ c.body-es.ensures c.node_count-n.ensures c.loop-i.invariant.reached c.loop-i-test.true (counted (goal.at.loop-i-preserved c).After-field) (sym (c.walk_edges.ensures.at _ c.body-cs.ensures) ∙ c.in-Ok.is);
  within = search rules;
}

pub returns-then-at-es : goal.returns-then-at-es
returns-then-at-es c = reach-over _ _ c.body-es.ensures c.node_count-n.ensures c.loop-i.invariant.reached (omega arith) c.if-at-es.true

pub returns-else-at-es : goal.returns-else-at-es
returns-else-at-es c = reach-left _ _ c.body-es.ensures c.node_count-n.ensures c.loop-i.invariant.reached (omega arith) c.if-at-es.false
