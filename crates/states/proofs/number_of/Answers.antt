use mathlib.Core.Path.{◌≡◌, ◌∙◌, ap₂}
use mir.Syntax.{w64}
use mir.Val.{to_z, of_z}
use borrow.Author.Rules.{rules}
use Rattle.folder.proofs.Signed.{back}
use Rattle.expressions.specs.Entries.{entries_of}
use Rattle.expressions.specs.Operations.{arith_z}
use Rattle.states.proofs.Entries.{number-from, if-taken, if-left, parts-small}
use Rattle.states.proofs.number_of.Goals as goal

pub arith_of-requires : goal.arith_of-requires
arith_of-requires c = parts-small (entries_of c.args.x.now) c.args.s.now c.requires.grounded c.args.row.now c.args.e c.requires.parted _ _ _ c.number_form.ensures.0 c.in-Binary.is (back c.value_at-in-Binary.type_inv ∙ c.value_at-in-Binary.ensures) (back c.value_at-in-Binary-2.type_inv ∙ c.value_at-in-Binary-2.ensures)

pub returns-in-Constant : goal.returns-in-Constant
returns-in-Constant c =
    let ok : to_z w64 (of_z w64 c.in-Constant.z) ≡ c.in-Constant.z = search rules in
    ok ∙ number-from (entries_of c.args.x.now) c.args.s.now c.requires.grounded c.args.row.now c.args.e c.requires.parted _ c.number_form.ensures.0 c.in-Constant.is

pub returns-in-Variable : goal.returns-in-Variable
returns-in-Variable c = back c.value_at.type_inv ∙ c.value_at.ensures ∙ number-from (entries_of c.args.x.now) c.args.s.now c.requires.grounded c.args.row.now c.args.e c.requires.parted _ c.number_form.ensures.0 c.in-Variable.is

pub returns-in-Binary : goal.returns-in-Binary
returns-in-Binary c =
    back c.arith_of.type_inv ∙ c.arith_of.ensures ∙ ap₂ (arith_z c.in-Binary.k) (back c.value_at-in-Binary.type_inv ∙ c.value_at-in-Binary.ensures) (back c.value_at-in-Binary-2.type_inv ∙ c.value_at-in-Binary-2.ensures)
    ∙ number-from (entries_of c.args.x.now) c.args.s.now c.requires.grounded c.args.row.now c.args.e c.requires.parted _ c.number_form.ensures.0 c.in-Binary.is

pub returns-then-holds_at : goal.returns-then-holds_at
returns-then-holds_at c = if-taken (entries_of c.args.x.now) c.args.s.now c.requires.grounded c.args.row.now c.args.e c.requires.parted _ _ _ c.number_form.ensures.0 c.in-If.is c.holds_at.ensures c.if-holds_at.true (back c.value_at-then-holds_at.type_inv ∙ c.value_at-then-holds_at.ensures)

pub returns-else-holds_at : goal.returns-else-holds_at
returns-else-holds_at c = if-left (entries_of c.args.x.now) c.args.s.now c.requires.grounded c.args.row.now c.args.e c.requires.parted _ _ _ c.number_form.ensures.0 c.in-If.is c.holds_at.ensures c.if-holds_at.false (back c.value_at-else-holds_at.type_inv ∙ c.value_at-else-holds_at.ensures)

pub returns-in-NoNumber : goal.returns-in-NoNumber
returns-in-NoNumber c = number-from (entries_of c.args.x.now) c.args.s.now c.requires.grounded c.args.row.now c.args.e c.requires.parted _ c.number_form.ensures.0 c.in-NoNumber.is
