use native.Mathlib.Omega.{arith}
use mathlib.Core.Path.{◌≡◌, sym, ap, ◌∙◌}
use Rattle.folder.specs.Scan.{first_bad}
use Rattle.folder.proofs.ScanLaws.{scan-over}
use Rattle.entries.proofs.Row.{fill_start, fill-small, fill-next, fill-found}
use Rattle.entries.proofs.first_bad_entry.Goals as goal

pub loop-i-init : goal.loop-i-init
loop-i-init c = fill_start _ _ _

pub slice_bounds-depth_by-end : goal.slice_bounds-depth_by-end
slice_bounds-depth_by-end c = sym c.loop-i.invariant.long

pub overflow_cast-depths : goal.overflow_cast-depths
overflow_cast-depths c =
    let h = fill-small c.loop-i.invariant c.loop-i-test.true c.form_fits.ensures c.depth_by-d.ensures c.if-not-form_fits-d.false in
    omega arith

pub loop-i-preserved : goal.loop-i-preserved
loop-i-preserved c =
    fill-next c.loop-i.invariant c.loop-i-test.true c.form_fits.ensures c.depth_by-d.ensures c.if-not-form_fits-d.false (omega arith)

pub returns-then-not-form_fits-d : goal.returns-then-not-form_fits-d
returns-then-not-form_fits-d c =
    fill-found c.loop-i.invariant c.loop-i-test.true c.form_fits.ensures c.depth_by-d.ensures c.if-not-form_fits-d.true
    ∙ ap (first_bad _) c.count_of-n.ensures

pub returns : goal.returns
returns c =
    let e : c.count_of-n.result ≡ c.loop-i.i = omega (arith, c.loop-i.invariant.scanned.within, c.loop-i-test.false) in
    e ∙ scan-over c.loop-i.invariant.scanned c.loop-i-test.false ∙ ap (first_bad _) c.count_of-n.ensures
