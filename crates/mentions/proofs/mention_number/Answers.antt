use mathlib.Core.Path.{◌∙◌, ap₂}
use native.Mathlib.Omega.{arith}
use Rattle.expressions.specs.Entries.{entries_of}
use Rattle.expressions.specs.Mentions.{union}
use Rattle.mentions.proofs.Masks.{one-bit, variable-small, number-from}
use Rattle.mentions.proofs.mention_number.Goals as goal

pub overflow_shl-result : goal.overflow_shl-result
overflow_shl-result c =
    omega (arith, variable-small (entries_of c.args.x.now) c.requires.written c.args.e _ c.number_form-f.ensures.0 c.in-Variable.is)

pub returns-in-Constant : goal.returns-in-Constant
returns-in-Constant c =
    number-from (entries_of c.args.x.now) c.requires.written c.args.e c.args.masks.now c.requires.masked _ c.number_form-f.ensures.0 c.in-Constant.is

pub returns-in-Variable : goal.returns-in-Variable
returns-in-Variable c =
    one-bit c.in-Variable.i (variable-small (entries_of c.args.x.now) c.requires.written c.args.e _ c.number_form-f.ensures.0 c.in-Variable.is)
    ∙ number-from (entries_of c.args.x.now) c.requires.written c.args.e c.args.masks.now c.requires.masked _ c.number_form-f.ensures.0 c.in-Variable.is

pub returns-in-Binary : goal.returns-in-Binary
unfolding union
returns-in-Binary c =
    ap₂ union c.get_or.ensures c.get_or-in-Binary.ensures
    ∙ number-from (entries_of c.args.x.now) c.requires.written c.args.e c.args.masks.now c.requires.masked _ c.number_form-f.ensures.0 c.in-Binary.is

pub returns-in-If : goal.returns-in-If
unfolding union
returns-in-If c =
    ap₂ union c.get_or-in-If.ensures (ap₂ union c.get_or-in-If-2.ensures c.get_or-in-If-3.ensures)
    ∙ number-from (entries_of c.args.x.now) c.requires.written c.args.e c.args.masks.now c.requires.masked _ c.number_form-f.ensures.0 c.in-If.is

pub returns-in-NoNumber : goal.returns-in-NoNumber
returns-in-NoNumber c =
    number-from (entries_of c.args.x.now) c.requires.written c.args.e c.args.masks.now c.requires.masked _ c.number_form-f.ensures.0 c.in-NoNumber.is
