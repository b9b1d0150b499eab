use native.Mathlib.Omega.{arith}
use Rattle.finish.specs.Laid.{final_field}
use Rattle.finish.proofs.FinalLaws.{field-later, field-kind, field-cover, field-set}
use borrow.Author.Rules.{rules}
use Rattle.finish.proofs.final_field.Goals as goal

pub returns-in-0 : goal.returns-in-0
returns-in-0 c = (field-kind _ _ _ _ c.node_size-size.ensures.0 c.in-0.is c.field.ensures.0 c.kind_of.ensures.0, c.kind_of.ensures.1)

pub returns-in-1 : goal.returns-in-1
returns-in-1 c = (field-cover _ _ _ _ c.node_size-size.ensures.0 c.in-1.is c.field-in-1-2.ensures.0 c.field-in-1.ensures.0 c.cover_of.ensures.0, omega (arith, c.cover_of.ensures.1, c.field-in-1-2.ensures.1))

pub returns-in-2 : goal.returns-in-2
unfolding final_field
returns-in-2 c = search rules

pub returns-in-3 : goal.returns-in-3
unfolding final_field
returns-in-3 c = search rules

pub returns-in-4 : goal.returns-in-4
unfolding final_field
returns-in-4 c = search rules

pub returns-in-5 : goal.returns-in-5
returns-in-5 c = (field-set _ _ _ _ c.node_size-size.ensures.0 c.in-5.is c.field-in-5.ensures.0, c.field-in-5.ensures.1)

pub returns-in_default : goal.returns-in_default
returns-in_default c = (field-later _ _ _ _ (omega arith) c.final_value.ensures.0, c.final_value.ensures.1)
