use native.Mathlib.Nat.{mul-le-mul}
use native.Mathlib.Omega.{arith}
use Rattle.expressions.specs.Ranges.{bound_in}
use Rattle.expressions.specs.Combinations.{combinations}
use Rattle.expressions.proofs.Combinations.{choices-some}
use Rattle.choices.proofs.Grown.{grown-start, grown-next, grown-past, grown-over}
use Rattle.choices.proofs.ways.Goals as goal

pub overflow_mul-p : goal.overflow_mul-p
overflow_mul-p c = record { fits = omega (arith, mul-le-mul c.loop-v.invariant.few c.choices_of-p.ensures.1) }

pub returns-then-p-gt-MOST_COMBINATIONS : goal.returns-then-p-gt-MOST_COMBINATIONS
unfolding combinations
returns-then-p-gt-MOST_COMBINATIONS c =
    grown-past c.loop-v.invariant c.count_of-n.ensures (choices-some (bound_in c.args.y.now) c.args.t c.args.m) c.loop-v-test.true c.choices_of-p.ensures.0 (omega (arith, c.if-p-gt-MOST_COMBINATIONS.true))

pub loop-v-preserved : goal.loop-v-preserved
loop-v-preserved c =
    grown-next c.loop-v.invariant c.loop-v-test.true c.choices_of-p.ensures.0 (omega (arith, c.if-p-gt-MOST_COMBINATIONS.false))

pub returns : goal.returns
unfolding combinations
returns c = grown-over c.loop-v.invariant c.count_of-n.ensures (omega arith)

pub loop-v-init : goal.loop-v-init
loop-v-init c = grown-start _ _
