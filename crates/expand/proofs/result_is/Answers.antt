use mathlib.Core.Path.{◌∙◌}
use native.Mathlib.Omega.{arith}
use Rattle.folder.proofs.Signed.{back}
use Rattle.expand.proofs.FollowLaws.{result-tested, entry-there}
use Rattle.expand.proofs.result_is.Goals as goal

pub value_in-requires : goal.value_in-requires
value_in-requires c =
    omega (arith, entry-there c.requires.leads c.args.v c.requires.vars_le_most_variables.1 c.u16_in-e.ensures.0, c.requires.most_expressions_in_bounds)

pub returns : goal.returns
returns c =
    result-tested _ _ _ _ _ _ c.u16_in-e.ensures.0 _ c.u16_in.ensures.0 (back c.signed_of-concrete.type_inv ∙ c.signed_of-concrete.ensures) (back c.value_in.type_inv ∙ c.value_in.ensures) c.equal.ensures
