use Prim.Native.Nat.{◌<◌}
use mathlib.Core.Path.{◌≡◌}
use Rattle.model.specs.Model.{model_of}
use Rattle.graph.specs.Simulation.{simulation_of}
use Rattle.rounds.specs.Rounds.{nodes_of, source}
use Rattle.folder.proofs.FillLaws.{fill_start, fill-next, fill-over}
use Rattle.rounds.proofs.CoverLaws.{source_in, source_is, source-stands}
use native.Mathlib.Omega.{arith}
use Rattle.rounds.proofs.fill_covers.Goals as goal
use Rattle.rounds.proofs.fill_covers.Goals.{After-source_of-from}

from_is : (c : After-source_of-from)
    → c.source_of-from.result ≡ source (simulation_of (model_of c.args.s.now.model) c.args.s.now.graph) c.loop-n.n
from_is c =
    source_is c.node_count-nodes.ensures.ready.valid c.node_size-size.ensures.0 c.nodes-nb.ensures c.loop-n.n c.field-kind.ensures.0 c.field-cover.ensures.0 c.source_of-from.ensures

from_in : (c : After-source_of-from) → c.source_of-from.result < nodes_of c.args.s.now.model c.args.s.now.graph
from_in c = rw (from_is c) (source_in c.node_count-nodes.ensures.ready.valid c.loop-n.n (omega arith))

pub offset_bounds-dst-from : goal.offset_bounds-dst-from
offset_bounds-dst-from c = omega (arith, from_in (goal.at.offset_bounds-dst-from c).After-source_of-from)

pub bounds-dst-from : goal.bounds-dst-from
bounds-dst-from c = omega (arith, from_in (goal.at.bounds-dst-from c).After-source_of-from)

pub loop-n-preserved : goal.loop-n-preserved
loop-n-preserved c =
    fill-next c.loop-n.invariant c.loop-n-test.true (omega arith) (source-stands c.node_count-nodes.ensures.ready.valid c.args.dst.now c.loop-n.n (omega arith) (from_is (goal.at.loop-n-preserved c).After-source_of-from) c.loop-n.invariant.is)

pub returns : goal.returns
returns c = record { row = fill-over c.loop-n.invariant (omega arith) c.node_count-nodes.ensures.value; valid = c.node_count-nodes.ensures.ready.valid }

pub loop-n-init : goal.loop-n-init
loop-n-init c = fill_start _ _ _
