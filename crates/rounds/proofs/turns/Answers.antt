use Prim.Native.Nat.{◌+◌}
use mathlib.Core.Path.{◌≡◌, ◌∙◌, refl, sym}
use Rattle.rounds.specs.Rounds.{first_at, second_at}
use Rattle.rounds.proofs.RowLaws.{second_none, round-here, turned-first, turned-second, after-start, begun, Settled, at-the-end}
use native.Mathlib.Omega.{arith}
use Rattle.rounds.proofs.turns.Goals as goal
use Rattle.rounds.proofs.turns.Goals.{After-turn}

-- What the rows hold after a turn.
first_is : (c : After-turn) → c.turn.new.first ≡ first_at c.args.s.now.model c.args.s.now.graph (c.loop-k.k + 1) c.start_round.new.dst
first_is c = c.turn.ensures.first_after ∙ turned-first c.node_count-nodes.ensures.ready.valid c.loop-k.k _ _ c.loop-k.invariant.0 c.loop-k.invariant.1

second_is : (c : After-turn) → c.turn.new.second ≡ second_at c.args.s.now.model c.args.s.now.graph (c.loop-k.k + 1) c.args.second.now
second_is c = c.turn.ensures.second_after ∙ turned-second c.node_count-nodes.ensures.ready.valid c.loop-k.k _ _ c.loop-k.invariant.0 c.loop-k.invariant.1

pub loop-k-init : goal.loop-k-init
loop-k-init c =
    (begun c.node_count-nodes.ensures.ready.valid c.args.first.now c.start_round.ensures, second_none c.node_count-nodes.ensures.ready.valid _, refl, refl)

pub turn-requires : goal.turn-requires
turn-requires c = record { round = round-here c.node_count-nodes.ensures.ready.valid c.loop-k.k _ _ c.loop-k.invariant.0 c.loop-k.invariant.1; g_in_bounds = (omega (arith, c.requires.g_in_bounds.0, c.loop-k.invariant.2, c.start_round.auto.dst), omega (arith, c.requires.g_in_bounds.1, c.loop-k.invariant.3)) }

pub returns-then-same_first : goal.returns-then-same_first
returns-then-same_first c =
    let t = (goal.at.returns-then-same_first c).After-turn in
    let s : Settled c.node_count-nodes.ensures.ready.valid c.args.h c.start_round.new.dst c.args.second.now c.turn.new.first c.turn.new.second = at-the-end c.node_count-nodes.ensures.ready.valid c.loop-k.k c.args.h _ _ (first_is t) (second_is t) c.loop-k-test.true c.node_count-nodes.ensures.value (sym c.same_first.ensures ∙ c.if-same_first.true) in
    record { first_after = s.first ∙ after-start c.node_count-nodes.ensures.ready.valid c.args.first.now c.start_round.ensures c.args.h; second_after = s.second }

pub loop-k-preserved : goal.loop-k-preserved
loop-k-preserved c =
    let t = (goal.at.loop-k-preserved c).After-turn in
    (first_is t, second_is t, c.turn.auto.first ∙ c.loop-k.invariant.2, c.turn.auto.second ∙ c.loop-k.invariant.3)

pub returns : goal.returns
returns c = let e : c.loop-k.k ≡ c.args.h = omega arith in record { first_after = c.loop-k.invariant.0 ∙ rw e (after-start c.node_count-nodes.ensures.ready.valid c.args.first.now c.start_round.ensures c.args.h); second_after = c.loop-k.invariant.1 ∙ rw e refl }
