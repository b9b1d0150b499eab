use mathlib.Core.Path.{refl, ap}
use native.Mathlib.Omega.{arith}
use Rattle.std.specs.Prelude.{option_map}
use Rattle.nodes.specs.Told.{told}
use Rattle.repairs.proofs.Rereading.{standing-again, parent-again, settled-again}
use Rattle.repairs.proofs.Searching.{visit-start, visit-there, visit-mended, visit-next, visit-found, visit-over}
use Rattle.repairs.proofs.first_repair.Goals as goal

pub loop-n-init : goal.loop-n-init
loop-n-init c =
    visit-start c.requires.mark_right c.requires.low_le_high.0 c.requires.low_le_high.1 c.requires.standing.read

pub visit-requires : goal.visit-requires
visit-requires c = record { standing = standing-again c.loop-n.invariant.reread c.requires.standing; parent_right = parent-again c.loop-n.invariant.reread c.requires.parent_right; settled = settled-again c.loop-n.invariant.reread c.requires.settled; n_lt_nodes = visit-there c.loop-n.invariant c.requires.mark_right c.requires.low_le_high.1 c.loop-n-test.true c.requires.standing.held c.requires.low_le_high.2; n_value = visit-mended c.loop-n.invariant c.requires.mark_right c.requires.low_le_high.1 c.loop-n-test.true }

pub returns-in-Some : goal.returns-in-Some
returns-in-Some c =
    let v = visit-found c.loop-n.invariant c.requires.mark_right c.requires.low_le_high.1 c.visit.ensures.reread c.in-Some.ensures.result_value c.in-Some.ensures.marks_after c.loop-n-test.true refl in
    record { result_value = v.0; reread = v.1.0; mark_right_2 = v.1.1 }

pub loop-n-preserved : goal.loop-n-preserved
loop-n-preserved c =
    visit-next c.loop-n.invariant c.requires.mark_right c.requires.low_le_high.1 c.visit.ensures.reread c.visit.ensures.result_value c.visit.ensures.marks_after c.loop-n-test.true (visit-there c.loop-n.invariant c.requires.mark_right c.requires.low_le_high.1 c.loop-n-test.true c.requires.standing.held c.requires.low_le_high.2).1 (ap (option_map told) c.in_default.is)

pub returns : goal.returns
returns c =
    let v = visit-over c.loop-n.invariant c.requires.mark_right c.requires.low_le_high.1 (omega (arith, c.loop-n-test.false)) in
    record { result_value = v.0; reread = v.1.0; mark_right_2 = v.1.1 }
