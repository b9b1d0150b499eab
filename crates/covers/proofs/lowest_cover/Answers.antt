use native.Mathlib.Omega.{arith}
use mathlib.Core.Path.{◌≡◌, ap, ◌∙◌}
use mathlib.Core.Bool.{not}
use Rattle.folder.proofs.ScanLaws.{scan-next, scan-found, scan-over}
use Rattle.covers.proofs.CoverLaws.{field-by, scan-from}
use Rattle.covers.proofs.lowest_cover.Goals as goal

pub loop-c-init : goal.loop-c-init
loop-c-init c =
    let e = field-by _ _ _ _ c.node_size.ensures.0 c.field-hint.ensures.0 in
    scan-from _ (omega (arith, e, c.requires.vars_le_most_variables.3)) (λ k l. c.requires.by_index k (omega (arith, e, l)))

pub returns-then-can_cover : goal.returns-then-can_cover
returns-then-can_cover c = scan-found c.loop-c.invariant c.loop-c-test.true (ap not c.can_cover.ensures) (ap not c.if-can_cover.true)

pub loop-c-preserved : goal.loop-c-preserved
loop-c-preserved c = scan-next c.loop-c.invariant c.loop-c-test.true (ap not c.can_cover.ensures) (ap not c.if-can_cover.false)

pub returns : goal.returns
returns c =
    let e : c.args.nodes ≡ c.loop-c.c = omega arith in
    e ∙ scan-over c.loop-c.invariant (omega arith)
