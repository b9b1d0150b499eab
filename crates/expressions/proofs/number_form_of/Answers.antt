use mathlib.Core.Path.{◌∙◌, ap}
use Rattle.folder.proofs.Signed.{back}
use Rattle.expressions.specs.declared.NumberForm.TheVariants.{Constant}
use borrow.Author.Tests.{ne_eqb}
use borrow.Author.Rules.{rules}
use Rattle.expressions.specs.Entries.{number_form_of}
use Rattle.expressions.proofs.number_form_of.Goals as goal

pub returns-in-0 : goal.returns-in-0
unfolding number_form_of
returns-in-0 c = (rw c.in-0.is (ap Constant (back c.signed_of.type_inv ∙ c.signed_of.ensures)), tt)

pub returns-in-1 : goal.returns-in-1
unfolding number_form_of
returns-in-1 c = (rw c.in-1.is, search rules)

pub returns-in-2 : goal.returns-in-2
unfolding number_form_of
returns-in-2 c = (rw c.in-2.is, search rules)

pub returns-in-3 : goal.returns-in-3
unfolding number_form_of
returns-in-3 c = (rw c.in-3.is, search rules)

pub returns-in-4 : goal.returns-in-4
unfolding number_form_of
returns-in-4 c = (rw c.in-4.is, search rules)

pub returns-in-5 : goal.returns-in-5
unfolding number_form_of
returns-in-5 c = (rw c.in-5.is, search rules)

pub returns-in-6 : goal.returns-in-6
unfolding number_form_of
returns-in-6 c = (rw c.in-6.is, search rules)

pub returns-in-7 : goal.returns-in-7
unfolding number_form_of
returns-in-7 c = (rw c.in-7.is, search rules)

pub returns-in_default : goal.returns-in_default
unfolding number_form_of
returns-in_default c = (
  rw (
    ne_eqb c.args.op 0 c.in_default.in_default-own.rest.0.0.0.0.0.0.0.1,
    ne_eqb c.args.op 1 c.in_default.in_default-own.rest.0.0.0.0.0.0.1,
    ne_eqb c.args.op 2 c.in_default.in_default-own.rest.0.0.0.0.0.1,
    ne_eqb c.args.op 3 c.in_default.in_default-own.rest.0.0.0.0.1,
    ne_eqb c.args.op 4 c.in_default.in_default-own.rest.0.0.0.1,
    ne_eqb c.args.op 5 c.in_default.in_default-own.rest.0.0.1,
    ne_eqb c.args.op 6 c.in_default.in_default-own.rest.0.1,
    ne_eqb c.args.op 7 c.in_default.in_default-own.rest.1,
  ),
  tt,
)
