use native.Mathlib.Omega.{arith}
use Rattle.sums.proofs.EdgeLaws.{weigh-start, weigh-next, weigh-over}
use Rattle.sums.proofs.edge_sum.Goals as goal

pub loop-b-init : goal.loop-b-init
loop-b-init c = weigh-start _ _ _ _ _ _

pub bounds-row-to : goal.bounds-row-to
bounds-row-to c =
    omega (arith, c.requires.known c.loop-b.b c.loop-b-test.true)

pub times-acc-requires : goal.times-acc-requires
times-acc-requires c =
    c.requires.light c.loop-b.b c.loop-b-test.true

pub loop-b-preserved : goal.loop-b-preserved
loop-b-preserved c =
    weigh-next c.loop-b.invariant c.loop-b-test.true c.u16_in-to.ensures.0 c.times-acc.ensures.0 c.times-acc.ensures.1

pub returns : goal.returns
returns c =
    (weigh-over c.loop-b.invariant (omega arith), omega (arith, c.loop-b.invariant.summed.within, c.loop-b.invariant.summed.small, c.requires.few))
