use mathlib.Core.Path.{◌∙◌, ap, ap₂}
use Rattle.expressions.specs.Entries.{entries_of}
use Rattle.expressions.specs.Reading.{compare_n, not_t, join_t}
use Rattle.evaluate.proofs.Rows.{truth-from}
use Rattle.evaluate.proofs.settle_truth.Goals as goal

pub returns-in-Compare : goal.returns-in-Compare
returns-in-Compare c =
    c.compare.ensures ∙ ap₂ (compare_n _) c.settled_number.ensures c.settled_number-in-Compare.ensures ∙ truth-from (entries_of c.args.x.now) c.args.t c.args.v.now c.requires.ready c.args.e c.args.known.now c.args.values.now c.requires.settled _ c.truth_form-f.ensures.0 c.in-Compare.is

pub returns-in-Not : goal.returns-in-Not
returns-in-Not c =
    c.negate.ensures ∙ ap not_t c.settled_truth.ensures ∙ truth-from (entries_of c.args.x.now) c.args.t c.args.v.now c.requires.ready c.args.e c.args.known.now c.args.values.now c.requires.settled _ c.truth_form-f.ensures.0 c.in-Not.is

pub returns-in-Joined : goal.returns-in-Joined
returns-in-Joined c =
    c.joined.ensures ∙ ap₂ (join_t _) c.settled_truth-in-Joined.ensures c.settled_truth-in-Joined-2.ensures ∙ truth-from (entries_of c.args.x.now) c.args.t c.args.v.now c.requires.ready c.args.e c.args.known.now c.args.values.now c.requires.settled _ c.truth_form-f.ensures.0 c.in-Joined.is

pub returns-in-Always : goal.returns-in-Always
returns-in-Always c =
    truth-from (entries_of c.args.x.now) c.args.t c.args.v.now c.requires.ready c.args.e c.args.known.now c.args.values.now c.requires.settled _ c.truth_form-f.ensures.0 c.in-Always.is

pub returns-in-NoTruth : goal.returns-in-NoTruth
returns-in-NoTruth c =
    truth-from (entries_of c.args.x.now) c.args.t c.args.v.now c.requires.ready c.args.e c.args.known.now c.args.values.now c.requires.settled _ c.truth_form-f.ensures.0 c.in-NoTruth.is
