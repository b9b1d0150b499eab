use mathlib.Core.Path.{◌∙◌, ap₂}
use Rattle.expressions.specs.Entries.{entries_of}
use Rattle.expressions.specs.Mentions.{union}
use Rattle.mentions.proofs.Masks.{truth-from}
use Rattle.mentions.proofs.mention_truth.Goals as goal

pub returns-in-Compare : goal.returns-in-Compare
unfolding union
returns-in-Compare c =
    ap₂ union c.get_or.ensures c.get_or-in-Compare.ensures ∙ truth-from (entries_of c.args.x.now) c.requires.written c.args.e c.args.masks.now c.requires.masked _ c.truth_form-f.ensures.0 c.in-Compare.is

pub returns-in-Not : goal.returns-in-Not
returns-in-Not c =
    c.get_or-in-Not.ensures ∙ truth-from (entries_of c.args.x.now) c.requires.written c.args.e c.args.masks.now c.requires.masked _ c.truth_form-f.ensures.0 c.in-Not.is

pub returns-in-Joined : goal.returns-in-Joined
unfolding union
returns-in-Joined c =
    ap₂ union c.get_or-in-Joined.ensures c.get_or-in-Joined-2.ensures ∙ truth-from (entries_of c.args.x.now) c.requires.written c.args.e c.args.masks.now c.requires.masked _ c.truth_form-f.ensures.0 c.in-Joined.is

pub returns-in-Always : goal.returns-in-Always
returns-in-Always c =
    truth-from (entries_of c.args.x.now) c.requires.written c.args.e c.args.masks.now c.requires.masked _ c.truth_form-f.ensures.0 c.in-Always.is

pub returns-in-NoTruth : goal.returns-in-NoTruth
returns-in-NoTruth c =
    truth-from (entries_of c.args.x.now) c.requires.written c.args.e c.args.masks.now c.requires.masked _ c.truth_form-f.ensures.0 c.in-NoTruth.is
