use borrow.Author.Tests.{ne_eqb}
use borrow.Author.Rules.{rules}
use Rattle.expressions.specs.Entries.{truth_form_of}
use Rattle.expressions.proofs.truth_form_of.Goals as goal

pub returns-in-8 : goal.returns-in-8
unfolding truth_form_of
returns-in-8 c = (rw c.in-8.is, search rules)

pub returns-in-9 : goal.returns-in-9
unfolding truth_form_of
returns-in-9 c = (rw c.in-9.is, search rules)

pub returns-in-10 : goal.returns-in-10
unfolding truth_form_of
returns-in-10 c = (rw c.in-10.is, search rules)

pub returns-in-11 : goal.returns-in-11
unfolding truth_form_of
returns-in-11 c = (rw c.in-11.is, search rules)

pub returns-in-12 : goal.returns-in-12
unfolding truth_form_of
returns-in-12 c = (rw c.in-12.is, search rules)

pub returns-in-13 : goal.returns-in-13
unfolding truth_form_of
returns-in-13 c = (rw c.in-13.is, search rules)

pub returns-in-14 : goal.returns-in-14
unfolding truth_form_of
returns-in-14 c = (rw c.in-14.is, search rules)

pub returns-in_default : goal.returns-in_default
unfolding truth_form_of
returns-in_default c = (
  rw (
    ne_eqb c.args.op 8 c.in_default.in_default-own.rest.0.0.0.0.0.0.1,
    ne_eqb c.args.op 9 c.in_default.in_default-own.rest.0.0.0.0.0.1,
    ne_eqb c.args.op 10 c.in_default.in_default-own.rest.0.0.0.0.1,
    ne_eqb c.args.op 11 c.in_default.in_default-own.rest.0.0.0.1,
    ne_eqb c.args.op 12 c.in_default.in_default-own.rest.0.0.1,
    ne_eqb c.args.op 13 c.in_default.in_default-own.rest.0.1,
    ne_eqb c.args.op 14 c.in_default.in_default-own.rest.1,
  ),
  tt,
)
