use mathlib.Core.Path.{◌≡◌, ◌∙◌, ap, ap₂}
use mir.Syntax.{w64}
use mir.Val.{to_z, of_z}
use borrow.Author.Rules.{rules}
use Rattle.expressions.specs.Entries.{entries_of}
use Rattle.expressions.specs.Reading.{arith_n}
use Rattle.evaluate.proofs.Rows.{number-from, parts-small}
use Rattle.evaluate.proofs.settle_number.Goals as goal
use Rattle.std.specs.Prelude.{Some}

pub combine-requires : goal.combine-requires
combine-requires c =
    parts-small (entries_of c.args.x.now) c.args.t c.args.v.now c.requires.ready c.args.e c.args.known.now c.args.values.now c.requires.settled _ _ _ c.number_form-f.ensures.0 c.in-Binary.is c.settled_number.ensures c.settled_number-in-Binary.ensures

pub returns-in-Constant : goal.returns-in-Constant
returns-in-Constant c =
    let ok : to_z w64 (of_z w64 c.in-Constant.z) ≡ c.in-Constant.z = search rules in
    ap Some ok ∙ number-from (entries_of c.args.x.now) c.args.t c.args.v.now c.requires.ready c.args.e c.args.known.now c.args.values.now c.requires.settled _ c.number_form-f.ensures.0 c.in-Constant.is

pub returns-in-Variable : goal.returns-in-Variable
returns-in-Variable c =
    c.look_in.ensures ∙ number-from (entries_of c.args.x.now) c.args.t c.args.v.now c.requires.ready c.args.e c.args.known.now c.args.values.now c.requires.settled _ c.number_form-f.ensures.0 c.in-Variable.is

pub returns-in-Binary : goal.returns-in-Binary
returns-in-Binary c =
    c.combine.ensures ∙ ap₂ (arith_n _) c.settled_number.ensures c.settled_number-in-Binary.ensures ∙ number-from (entries_of c.args.x.now) c.args.t c.args.v.now c.requires.ready c.args.e c.args.known.now c.args.values.now c.requires.settled _ c.number_form-f.ensures.0 c.in-Binary.is

pub returns-in-If : goal.returns-in-If
returns-in-If c =
    c.choose.ensures
    ∙ simp (c.settled_truth.ensures, c.settled_number-in-If.ensures, c.settled_number-in-If-2.ensures)
    (number-from (entries_of c.args.x.now) c.args.t c.args.v.now c.requires.ready c.args.e c.args.known.now c.args.values.now c.requires.settled _ c.number_form-f.ensures.0 c.in-If.is)

pub returns-in-NoNumber : goal.returns-in-NoNumber
returns-in-NoNumber c =
    number-from (entries_of c.args.x.now) c.args.t c.args.v.now c.requires.ready c.args.e c.args.known.now c.args.values.now c.requires.settled _ c.number_form-f.ensures.0 c.in-NoNumber.is
