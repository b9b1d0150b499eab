use mathlib.Core.Path.{◌∙◌}
use Rattle.graph.specs.Simulation.{edge_after}
use Rattle.sums.specs.Edges.{best_of}
use Rattle.sums.proofs.EdgeLaws.{ready-here, fits-here, edge-next, edge_more, larger-is}
use native.Mathlib.Omega.{arith}
use borrow.Author.Rules.{rules}
use Rattle.sums.proofs.best_of.Goals as goal

pub loop-init : goal.loop-init
unfolding edge_after best_of
loop-init c = search rules

pub u16_in-c-requires : goal.u16_in-c-requires
u16_in-c-requires c =
    omega (arith, (ready-here c.requires c.loop.invariant.0 c.loop-test.true).fits.whole)

pub branches_of-branches-requires : goal.branches_of-branches-requires
branches_of-branches-requires c =
    omega (arith, (ready-here c.requires c.loop.invariant.0 c.loop-test.true).listed)

pub bounds-firsts-c : goal.bounds-firsts-c
bounds-firsts-c c =
    omega (arith, (ready-here c.requires c.loop.invariant.0 c.loop-test.true).command)

pub edge_sum-sum-requires : goal.edge_sum-sum-requires
edge_sum-sum-requires c =
    fits-here c.requires c.loop.invariant.0 c.loop-test.true c.u16_in-c.ensures.0 c.branches_of-branches.ensures.0

pub overflow_add-k-in-loop : goal.overflow_add-k-in-loop
overflow_add-k-in-loop c =
    let f = fits-here c.requires c.loop.invariant.0 c.loop-test.true c.u16_in-c.ensures.0 c.branches_of-branches.ensures.0 in
    omega (arith, f.whole, c.well_formed)

pub loop-preserved : goal.loop-preserved
loop-preserved c = (
  edge-next c.requires c.loop.invariant.0 c.loop-test.true c.u16_in-c.ensures.0 c.branches_of-branches.ensures.0,
  c.max-best.ensures ∙ larger-is c.loop.best c.edge_sum-sum.result ∙ edge_more c.requires c.loop.invariant.0 c.loop-test.true c.u16_in-c.ensures.0 c.branches_of-branches.ensures.0 _ c.loop.invariant.1 c.edge_sum-sum.ensures.0,
  omega (arith, c.max-best.ensures ∙ larger-is c.loop.best c.edge_sum-sum.result, c.edge_sum-sum.ensures.1),
)
