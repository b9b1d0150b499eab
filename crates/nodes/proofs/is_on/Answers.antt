use mathlib.Core.Path.{◌∙◌}
use Rattle.folder.proofs.Signed.{back}
use Rattle.nodes.specs.Born.{on_in}
use Rattle.nodes.proofs.is_on.Goals as goal

pub returns : goal.returns
unfolding on_in
returns c =
    let e = back c.value_at.type_inv ∙ c.value_at.ensures in
    cc
