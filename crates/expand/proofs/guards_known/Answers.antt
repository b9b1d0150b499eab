use mathlib.Core.Path.{refl, sym, ap, ◌∙◌}
use borrow.Author.Tests.{not-true, not-false, eq-eqb}
use native.Mathlib.Omega.{arith}
use Rattle.folder.specs.Scan.{first_bad}
use Rattle.folder.proofs.ScanLaws.{scan-next, scan-found, scan-over}
use Rattle.expand.proofs.Guards.{read_again, guard-there, guard-answer, guard-unknown, guards-open, flagged-known}
use Rattle.expand.proofs.guards_known.Goals as goal

pub loop-c-init : goal.loop-c-init
loop-c-init c =
    (flagged-known c.requires.node c.requires.read.flagged c.body-cs.ensures c.command_count-commands.ensures.0 c.unflagged_guard-c.ensures, c.requires.read.flagged, refl)

pub ask-requires : goal.ask-requires
ask-requires c = record { askable = read_again c.requires c.loop-c.invariant.1 c.loop-c.invariant.2; e_bound = (guard-there c.requires.node _ c.body-cs.ensures c.command_count-commands.ensures.0 c.loop-c-test.true c.field-guard.ensures.0).there }

pub lacked_by-requires : goal.lacked_by-requires
lacked_by-requires c = record {
  node_of = c.requires.node;
  masks_of = c.requires.masked;
  truth = guard-there c.requires.node _ c.body-cs.ensures c.command_count-commands.ensures.0 c.loop-c-test.true c.field-guard.ensures.0;
  unknown = sym (not-true _ c.if-not-ask.true-raw) ∙ guard-unknown c.requires.node _ c.body-cs.ensures c.command_count-commands.ensures.0 c.loop-c-test.true c.field-guard.ensures.0 c.ask.ensures.label_widened c.ask.ensures.value;
}

pub returns-then-not-ask : goal.returns-then-not-ask
returns-then-not-ask c =
    let a = guard-answer c.requires.node _ c.body-cs.ensures c.command_count-commands.ensures.0 c.loop-c-test.true c.field-guard.ensures.0 c.ask.ensures.label_widened c.ask.ensures.value in
    record {
      value = guards-open c.requires.node _ c.body-cs.ensures c.command_count-commands.ensures.0 c.loop-c-test.true c.field-guard.ensures.0
          (scan-found c.loop-c.invariant.0 c.loop-c-test.true a (not-true _ c.if-not-ask.true-raw) ∙ ap (first_bad _) c.command_count-commands.ensures.0) c.lacked_by.ensures;
      label_flagged = c.ask.ensures.label_widened.flagged;
    }

pub loop-c-preserved : goal.loop-c-preserved
loop-c-preserved c =
    let a = guard-answer c.requires.node _ c.body-cs.ensures c.command_count-commands.ensures.0 c.loop-c-test.true c.field-guard.ensures.0 c.ask.ensures.label_widened c.ask.ensures.value in
    (scan-next c.loop-c.invariant.0 c.loop-c-test.true a (not-false _ c.if-not-ask.false-raw), c.ask.ensures.label_widened.flagged, c.known-1.given ∙ c.loop-c.invariant.2)

pub returns : goal.returns
returns c = record {
  value = eq-eqb _ _ (omega (arith, scan-over c.loop-c.invariant.0 (omega arith) ∙ ap (first_bad _) c.command_count-commands.ensures.0, c.command_count-commands.ensures.0, c.loop-c.invariant.0.within));
  label_flagged = c.loop-c.invariant.1;
}
