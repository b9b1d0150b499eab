use Rattle.folder.proofs.FillLaws.{fill_start, fill-next, fill-over}
use Rattle.sums.proofs.NodeLaws.{Parts, node-ready, node-next, node-small}
use Rattle.rounds.proofs.NodeLaws.{node-figure}
use Prim.Native.Nat.{◌<◌}
use mathlib.Core.Path.{refl, sym}
use Rattle.graph.proofs.EdgePlaces.{place_none}
use Rattle.folder.specs.Contents.{body}
use Rattle.rounds.specs.Rounds.{nodes_of}
use native.Mathlib.Omega.{arith}
use Rattle.rounds.proofs.fill_next.Goals as goal
use Rattle.rounds.proofs.fill_next.Goals.{After-nodes-nb}

-- What the code has read before the loop.
parts : (c : After-nodes-nb)
    → Parts c.args.s.now.model c.args.s.now.graph c.node_size-size.result c.total-d.result (body c.args.s.now.model 3) c.nodes-nb.result.now (body c.args.s.now.graph 1)
parts c = record {
  size_is = c.node_size-size.ensures.0;
  total = c.total-d.ensures.0;
  commands = refl;
  nodes = c.nodes-nb.ensures;
  edges = refl;
}

pub loop-n-init : goal.loop-n-init
loop-n-init c = (fill_start _ _ _, sym (place_none _ _))

pub best-best-requires : goal.best-best-requires
best-best-requires c =
    node-ready c.node_count-nodes.ensures.ready.valid (parts (goal.at.best-best-requires c).After-nodes-nb) c.node_count-nodes.ensures.ready.tables (omega (arith, c.node_count-nodes.ensures.value)) c.loop-n.invariant.1 c.field-count.ensures.0 _ c.requires.round.long

pub figure_by-requires : goal.figure_by-requires
figure_by-requires c = (
  c.total-d.ensures.1,
  c.total-d.ensures.2,
  node-small c.node_count-nodes.ensures.ready.valid (parts (goal.at.figure_by-requires c).After-nodes-nb) c.node_count-nodes.ensures.ready.tables (omega (arith, c.node_count-nodes.ensures.value)) c.loop-n.invariant.1 c.field-count.ensures.0 _ c.best-best.ensures.0 c.requires.round,
)

pub bounds-dst-n : goal.bounds-dst-n
bounds-dst-n c = omega (arith, c.node_count-nodes.ensures.value, c.requires.g_in_bounds)

pub loop-n-preserved : goal.loop-n-preserved
loop-n-preserved c =
    let k : c.loop-n.n < nodes_of c.args.s.now.model c.args.s.now.graph = omega (arith, c.node_count-nodes.ensures.value) in (
      fill-next c.loop-n.invariant.0 c.loop-n-test.true (omega (arith, c.node_count-nodes.ensures.value, c.requires.g_in_bounds))
          (node-figure c.node_count-nodes.ensures.ready.valid (parts (goal.at.loop-n-preserved c).After-nodes-nb) c.node_count-nodes.ensures.ready.tables k c.loop-n.invariant.1 c.field-count.ensures.0 _ c.best-best.ensures.0 c.field-kind.ensures.0 c.figure_by.ensures),
      node-next c.node_count-nodes.ensures.ready.valid (parts (goal.at.loop-n-preserved c).After-nodes-nb) c.node_count-nodes.ensures.ready.tables k c.loop-n.invariant.1 c.field-count.ensures.0 c.best-best.ensures.1,
    )

pub returns : goal.returns
returns c = fill-over c.loop-n.invariant.0 (omega arith) c.node_count-nodes.ensures.value
