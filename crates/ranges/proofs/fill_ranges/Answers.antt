use mathlib.Core.Path.{◌≡◌, refl, ◌∙◌, ap}
use Rattle.folder.specs.Scan.{first_bad}
use Rattle.folder.proofs.FillLaws.{fill-over}
use Rattle.folder.proofs.ScanLaws.{scan-over}
use native.Mathlib.Omega.{arith}
use Rattle.ranges.proofs.FillLaws.{fill_start, fill-ranged, fill-found, fill-next}
use Rattle.ranges.proofs.fill_ranges.Goals as goal

pub loop-e-init : goal.loop-e-init
loop-e-init c = fill_start _ _ _ _

pub range_of-r-requires : goal.range_of-r-requires
range_of-r-requires c =
    fill-ranged c.loop-e.invariant c.loop-e-test.true (omega arith) c.requires.based (omega arith)

pub loop-e-preserved : goal.loop-e-preserved
loop-e-preserved c =
    fill-next c.loop-e.invariant c.loop-e-test.true c.range_of-r.ensures c.in_limits.ensures (omega arith) c.if-not-in_limits.false

pub returns-then-not-in_limits : goal.returns-then-not-in_limits
returns-then-not-in_limits c = record {
  value = fill-found c.loop-e.invariant c.loop-e-test.true c.range_of-r.ensures c.in_limits.ensures c.if-not-in_limits.true ∙ ap (first_bad _) c.count_of-n.ensures;
  row_after = c.loop-e.invariant.filled.is;
}

pub returns : goal.returns
returns c =
    let e : c.count_of-n.result ≡ c.loop-e.e = omega (arith, c.loop-e.invariant.scanned.within, c.loop-e-test.false) in
    record {
      value = e ∙ scan-over c.loop-e.invariant.scanned c.loop-e-test.false ∙ ap (first_bad _) c.count_of-n.ensures;
      row_after = fill-over c.loop-e.invariant.filled c.loop-e-test.false refl;
    }
