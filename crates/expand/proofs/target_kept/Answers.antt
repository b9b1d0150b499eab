use mathlib.Core.Path.{sym, ◌∙◌}
use borrow.Author.Tests.{not-true, not-false}
use Rattle.model.specs.Model.{model_of}
use Rattle.expand.proofs.Readings.{target-open, definite-is}
use Rattle.expand.proofs.Guards.{target-there, target-answer, answered, lacked-at, due-is}
use Rattle.expand.proofs.target_kept.Goals as goal

pub ask-requires : goal.ask-requires
ask-requires c = record { askable = c.requires; e_bound = (target-there c.requires.node c.body.ensures c.field-target.ensures.0).there }

pub lacked_by-requires : goal.lacked_by-requires
lacked_by-requires c = record {
  node_of = c.requires.node;
  masks_of = c.requires.masked;
  truth = target-there c.requires.node c.body.ensures c.field-target.ensures.0;
  unknown = sym (not-true _ c.if-not-ask.true-raw) ∙ answered c.requires.node c.body.ensures c.field-target.ensures.0 c.ask.ensures.label_widened c.ask.ensures.value;
}

pub returns-then-not-ask : goal.returns-then-not-ask
returns-then-not-ask c =
    let k = sym (target-answer c.requires.node c.body.ensures c.field-target.ensures.0 c.ask.ensures.label_widened c.ask.ensures.value) ∙ not-true _ c.if-not-ask.true-raw in
    record { value = (sym (target-open c.requires.node c.args.due k), lacked-at c.requires.node c.body.ensures c.field-target.ensures.0 c.lacked_by.ensures); label_flagged = c.ask.ensures.label_widened.flagged }

pub returns-then-holds_at-due : goal.returns-then-holds_at-due
returns-then-holds_at-due c =
    let k = sym (target-answer c.requires.node c.body.ensures c.field-target.ensures.0 c.ask.ensures.label_widened c.ask.ensures.value) ∙ not-false _ c.if-not-ask.false-raw in
    record { value = sym (due-is c.requires.node c.requires.kept c.requires.read.stated c.body.ensures c.field-target.ensures.0 k c.args.due c.holds_at.ensures) ∙ c.if-holds_at-due.true; label_flagged = c.ask.ensures.label_widened.flagged }

pub returns-else-holds_at-due : goal.returns-else-holds_at-due
returns-else-holds_at-due c =
    let k = sym (target-answer c.requires.node c.body.ensures c.field-target.ensures.0 c.ask.ensures.label_widened c.ask.ensures.value) ∙ not-false _ c.if-not-ask.false-raw in
    record { value = (sym (due-is c.requires.node c.requires.kept c.requires.read.stated c.body.ensures c.field-target.ensures.0 k c.args.due c.holds_at.ensures) ∙ c.if-holds_at-due.false, definite-is c.requires.node (model_of c.args.m.now).target k); label_flagged = c.ask.ensures.label_widened.flagged }
