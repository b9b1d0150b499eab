use Rattle.std.proofs.Common.{arith, refl, sym, ◌∙◌}
use borrow.Author.Tests.{eq-eqb, ne_eqb}
use Rattle.mdp.proofs.SumLaws.{sum_more, sum-next}
use Rattle.folder.proofs.ScanLaws.{scan-none, scan-more, scan-stop}
use Rattle.model_rules.specs.Bodies.{model_held}
use Rattle.model_rules.proofs.CheckLaws.{total-in}
use Rattle.model_rules.proofs.first_bad_total.Goals as goal

pub loop-c-init : goal.loop-c-init
loop-c-init c = (scan-none _, refl)

pub weight_sum-requires : goal.weight_sum-requires
weight_sum-requires c = (omega arith, omega (arith, sum_more c.args.n (model_held c.args.b.now).branches c.loop-c.c c.loop-c-test.true))

pub overflow_add-at : goal.overflow_add-at
overflow_add-at c = omega (arith, sum_more c.args.n (model_held c.args.b.now).branches c.loop-c.c c.loop-c-test.true)

pub returns-then-weight_sum-total : goal.returns-then-weight_sum-total
returns-then-weight_sum-total c =
    let t = total-in c.args.b.now c.loop-c.c c.field-total.ensures.0 c.count_of.ensures c.loop-c.invariant.1 c.field-branches.ensures.0 c.weight_sum.ensures in
    sym (scan-stop _ c.loop-c.c c.args.n c.loop-c.invariant.0 (sym t ∙ ne_eqb _ _ c.if-weight_sum-total.true) c.loop-c-test.true)

pub loop-c-preserved : goal.loop-c-preserved
loop-c-preserved c =
    let t = total-in c.args.b.now c.loop-c.c c.field-total.ensures.0 c.count_of.ensures c.loop-c.invariant.1 c.field-branches.ensures.0 c.weight_sum.ensures in
    (scan-more _ c.loop-c.c c.loop-c.invariant.0 (sym t ∙ eq-eqb _ _ c.if-weight_sum-total.false), sum-next c.loop-c.c _ c.loop-c.invariant.1 c.field-branches.ensures.0)
