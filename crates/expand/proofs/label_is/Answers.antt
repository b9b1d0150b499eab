use mathlib.Core.Path.{◌∙◌}
use native.Mathlib.Omega.{arith}
use Rattle.folder.proofs.Signed.{back}
use Rattle.expand.proofs.FollowLaws.{label-tested, entry-there}
use Rattle.expand.proofs.label_is.Goals as goal

pub reads_in-requires : goal.reads_in-requires
reads_in-requires c =
    let l = entry-there c.requires.leads c.args.v c.requires.vars_le_most_variables.1 c.u16_in-e.ensures.0 in
    (omega (arith, l, c.requires.rows_long.0), omega (arith, l, c.requires.rows_long.1))

pub returns : goal.returns
returns c = λ is.
    label-tested _ _ _ _ _ _ c.u16_in-e.ensures.0 _ _ c.u16_in.ensures.0 (back c.signed_of-label.type_inv ∙ c.signed_of-label.ensures) is c.has_bit-tracked.ensures c.reads_in.ensures
