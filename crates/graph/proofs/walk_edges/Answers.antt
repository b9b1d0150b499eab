use mathlib.Core.Path.{sym, ◌∙◌}
use native.Mathlib.Omega.{arith}
use borrow.Author.Rules.{rules}
use Rattle.graph.proofs.EdgeLaws.{walk_start, walk-next, walk-found, walk-over}
use Rattle.graph.proofs.walk_edges.Goals as goal

pub loop-e-init : goal.loop-e-init
loop-e-init c = record { passed = λ m e. walk_start; within = search rules }

pub loop-e-preserved : goal.loop-e-preserved
loop-e-preserved c = record {
  passed = λ m e. walk-next (c.loop-e.invariant.passed m e) (sym (c.edge_end.ensures.at m e) ∙ c.in-Some.is);
  within = search rules;
}

pub returns-in_default-clause-at : goal.returns-in_default-clause-at
returns-in_default-clause-at c = λ m e. walk-found (c.loop-e.invariant.passed m e) c.loop-e-test.true (sym (c.edge_end.ensures.at m e) ∙ c.in_default.is)

pub returns-clause-at : goal.returns-clause-at
returns-clause-at c = λ m e. walk-over (c.loop-e.invariant.passed m e) (omega arith)
