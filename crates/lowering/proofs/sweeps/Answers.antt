use mathlib.Core.Path.{◌≡◌}
use native.Mathlib.Nat.{le_refl}
use native.Mathlib.Omega.{arith}
use borrow.Author.Rules.{rules}
use Rattle.folder.specs.Tab.{fill}
use Rattle.graph.specs.Limits.{units}
use Rattle.lowering.proofs.SettledLaws.{round-start, round-over, round-held, round-more, settled-row}
use Rattle.lowering.proofs.sweeps.Goals.{After-fill}
use Rattle.lowering.proofs.sweeps.Goals as goal

-- Round 0.
begun : (c : After-fill) → c.fill.new.row ≡ fill c.node_count-nodes.result (λ _. units) c.args.row.now
begun c = c.fill.ensures (λ _. units) (λ i t l h. search rules)

pub loop-init : goal.loop-init
loop-init c =
    (round-start c.args.s.now.model c.args.s.now.graph c.args.row.now c.node_count-nodes.ensures.value (begun (goal.at.loop-init c).After-fill), omega (arith, c.requires.g_in_bounds, c.fill.auto.row))

pub sweep-requires : goal.sweep-requires
sweep-requires c = record { starts = c.requires.starts; round = round-held c.node_count-nodes.ensures.ready.valid c.loop.counter _ c.loop.invariant.0 c.loop.invariant.1 }

pub returns-then-sweep : goal.returns-then-sweep
returns-then-sweep c =
    round-over c.args.s.now.model c.args.s.now.graph c.args.row.now c.node_count-nodes.ensures.value (begun (goal.at.returns-then-sweep c).After-fill)
    (settled-row c.node_count-nodes.ensures.ready.valid c.loop.counter _ c.loop.invariant.0 c.loop-test.true c.sweep.ensures.value c.sweep.ensures.row_after c.if-sweep.true) (le_refl c.args.rounds) (le_refl c.args.rounds)

pub loop-preserved : goal.loop-preserved
loop-preserved c =
    (round-more c.node_count-nodes.ensures.ready.valid c.loop.counter _ c.loop.invariant.0 c.sweep.ensures.row_after, c.loop.invariant.1)

pub returns : goal.returns
returns c =
    round-over c.args.s.now.model c.args.s.now.graph c.args.row.now c.node_count-nodes.ensures.value (begun (goal.at.returns c).After-fill) c.loop.invariant.0 (omega arith) (omega arith)
