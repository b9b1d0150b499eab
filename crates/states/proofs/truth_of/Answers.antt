use mathlib.Core.Path.{◌∙◌, ap, ap₂}
use mathlib.Core.Bool.{not}
use Rattle.folder.proofs.Signed.{back}
use Rattle.expressions.specs.Entries.{entries_of}
use Rattle.expressions.specs.Operations.{relates}
use Rattle.expressions.specs.Meaning.{joins}
use Rattle.states.proofs.Entries.{truth-from}
use Rattle.states.proofs.truth_of.Goals as goal

pub returns-in-Compare : goal.returns-in-Compare
returns-in-Compare c =
    c.relate.ensures ∙ ap₂ (relates c.in-Compare.k) (back c.value_at.type_inv ∙ c.value_at.ensures) (back c.value_at-in-Compare.type_inv ∙ c.value_at-in-Compare.ensures)
    ∙ truth-from (entries_of c.args.x.now) c.args.s.now c.requires.grounded c.args.row.now c.args.e c.requires.parted _ c.truth_form.ensures.0 c.in-Compare.is

pub returns-in-Not : goal.returns-in-Not
returns-in-Not c = ap not c.holds_at.ensures ∙ truth-from (entries_of c.args.x.now) c.args.s.now c.requires.grounded c.args.row.now c.args.e c.requires.parted _ c.truth_form.ensures.0 c.in-Not.is

pub returns-in-Joined : goal.returns-in-Joined
returns-in-Joined c = c.join_of.ensures ∙ ap₂ (joins c.in-Joined.k) c.holds_at-in-Joined.ensures c.holds_at-in-Joined-2.ensures ∙ truth-from (entries_of c.args.x.now) c.args.s.now c.requires.grounded c.args.row.now c.args.e c.requires.parted _ c.truth_form.ensures.0 c.in-Joined.is

pub returns-in-Always : goal.returns-in-Always
returns-in-Always c = truth-from (entries_of c.args.x.now) c.args.s.now c.requires.grounded c.args.row.now c.args.e c.requires.parted _ c.truth_form.ensures.0 c.in-Always.is

pub returns-in-NoTruth : goal.returns-in-NoTruth
returns-in-NoTruth c = truth-from (entries_of c.args.x.now) c.args.s.now c.requires.grounded c.args.row.now c.args.e c.requires.parted _ c.truth_form.ensures.0 c.in-NoTruth.is
