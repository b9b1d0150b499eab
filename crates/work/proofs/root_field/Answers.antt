use mathlib.Core.Path.{◌∙◌}
use native.Mathlib.Omega.{arith}
use Rattle.work.proofs.RootLaws.{value-field, root-value, root-blank}
use Rattle.work.proofs.root_field.Goals as goal

pub overflow_sub-f : goal.overflow_sub-f
overflow_sub-f c = (value-field c.args.vars c.args.f c.if-f-vars.true).0

pub returns-then-f-vars : goal.returns-then-f-vars
returns-then-f-vars c = (c.field.ensures.0 ∙ root-value c.args.vars c.args.y.now c.args.f c.if-f-vars.true, c.field.ensures.1)

pub returns : goal.returns
returns c = (root-blank c.args.vars c.args.y.now c.args.f c.if-f-vars.false, omega arith)
