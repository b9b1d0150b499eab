use Prim.Native.Nat.{◌<◌}
use mathlib.Core.Path.{◌≡◌, refl, ◌∙◌}
use native.Mathlib.Omega.{arith}
use Rattle.model.specs.Model.{model_of}
use Rattle.folder.specs.Contents.{body}
use Rattle.graph.specs.Walks.{starts_at}
use Rattle.lowering.specs.Sweeps.{nodes_of}
use Rattle.sums.proofs.NodeLaws.{Parts, node-ready, node-small}
use Rattle.lowering.proofs.NodeLaws.{from_in, node-value}
use Rattle.lowering.proofs.SweepLaws.{sweep-start, sweep-next, sweep-over, still-over}
use Rattle.lowering.proofs.sweep.Goals.{After-nodes-nb, After-begin_of-at, In-loop-n}
use Rattle.lowering.proofs.sweep.Goals as goal

-- What the code has read before the loop.
parts : (c : After-nodes-nb)
    → Parts c.args.s.now.model c.args.s.now.graph c.node_size-size.result c.total-d.result (body c.args.s.now.model 3) c.nodes-nb.result.now (body c.args.s.now.graph 1)
parts c = record {
  size_is = c.node_size-size.ensures.0;
  total = c.total-d.ensures.0;
  commands = refl;
  nodes = c.nodes-nb.ensures;
  edges = refl;
}

-- The node that a turn sets.
here : (c : In-loop-n) → c.loop-n.n < nodes_of c.args.s.now.model c.args.s.now.graph
here c = omega (arith, c.node_count-nodes.ensures.value)

pub loop-n-init : goal.loop-n-init
loop-n-init c = sweep-start c.node_count-nodes.ensures.ready.valid c.requires.round

pub begin_of-at-requires : goal.begin_of-at-requires
begin_of-at-requires c = omega (arith, here (goal.at.begin_of-at-requires c).In-loop-n, c.requires.starts.long)

-- Where the node's edges start.
starts : (c : After-begin_of-at) → c.begin_of-at.result ≡ starts_at (model_of c.args.s.now.model) c.args.s.now.graph c.loop-n.n
starts c = c.begin_of-at.ensures ∙ c.requires.starts.is c.loop-n.n (omega (arith, c.node_count-nodes.ensures.value))

pub best-best-requires : goal.best-best-requires
best-best-requires c =
    node-ready c.node_count-nodes.ensures.ready.valid (parts (goal.at.best-best-requires c).After-nodes-nb) c.node_count-nodes.ensures.ready.tables (here (goal.at.best-best-requires c).In-loop-n) (starts (goal.at.best-best-requires c).After-begin_of-at) c.field-count.ensures.0 _ c.loop-n.invariant.round.long

pub offset_bounds-row-from : goal.offset_bounds-row-from
offset_bounds-row-from c = omega (arith, from_in c.node_count-nodes.ensures.ready.valid (parts (goal.at.offset_bounds-row-from c).After-nodes-nb) (here (goal.at.offset_bounds-row-from c).In-loop-n) c.field-kind.ensures.0 c.field-cover.ensures.0 c.source_of-from.ensures, c.loop-n.invariant.few)

pub bounds-row-from : goal.bounds-row-from
bounds-row-from c = omega (arith, from_in c.node_count-nodes.ensures.ready.valid (parts (goal.at.bounds-row-from c).After-nodes-nb) (here (goal.at.bounds-row-from c).In-loop-n) c.field-kind.ensures.0 c.field-cover.ensures.0 c.source_of-from.ensures, c.loop-n.invariant.round.long)

pub value_by-value-requires : goal.value_by-value-requires
value_by-value-requires c = (
  c.total-d.ensures.1,
  c.total-d.ensures.2,
  node-small c.node_count-nodes.ensures.ready.valid (parts (goal.at.value_by-value-requires c).After-nodes-nb) c.node_count-nodes.ensures.ready.tables (here (goal.at.value_by-value-requires c).In-loop-n) (starts (goal.at.value_by-value-requires c).After-begin_of-at) c.field-count.ensures.0 _ c.best-best.ensures.0 c.loop-n.invariant.round,
)

pub offset_bounds-row-n : goal.offset_bounds-row-n
offset_bounds-row-n c = omega (arith, here (goal.at.offset_bounds-row-n c).In-loop-n, c.loop-n.invariant.few)

pub bounds-row-n : goal.bounds-row-n
bounds-row-n c = omega (arith, here (goal.at.bounds-row-n c).In-loop-n, c.loop-n.invariant.round.long)

pub offset_bounds-row-n-in-loop-n : goal.offset_bounds-row-n-in-loop-n
offset_bounds-row-n-in-loop-n c = omega (arith, here (goal.at.offset_bounds-row-n-in-loop-n c).In-loop-n, c.loop-n.invariant.few)

pub bounds-row-n-in-loop-n : goal.bounds-row-n-in-loop-n
bounds-row-n-in-loop-n c = omega (arith, here (goal.at.bounds-row-n-in-loop-n c).In-loop-n, c.loop-n.invariant.round.long)

pub loop-n-preserved : goal.loop-n-preserved
loop-n-preserved c =
    let p = parts (goal.at.loop-n-preserved c).After-nodes-nb in
    let h = here (goal.at.loop-n-preserved c).In-loop-n in
    sweep-next c.node_count-nodes.ensures.ready.valid c.loop-n.invariant h
    (node-value c.node_count-nodes.ensures.ready.valid p c.node_count-nodes.ensures.ready.tables h (starts (goal.at.loop-n-preserved c).After-begin_of-at) c.field-count.ensures.0 _ c.best-best.ensures.0 c.field-kind.ensures.0 c.field-cover.ensures.0 c.source_of-from.ensures c.value_by-value.ensures) refl

pub returns : goal.returns
returns c = record { value = still-over c.node_count-nodes.ensures.ready.valid c.loop-n.invariant c.node_count-nodes.ensures.value (omega arith); row_after = sweep-over c.node_count-nodes.ensures.ready.valid c.loop-n.invariant c.node_count-nodes.ensures.value (omega arith) }
