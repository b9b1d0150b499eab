use mathlib.Core.Path.{◌∙◌}
use Rattle.folder.proofs.Signed.{back, back_fits}
use Rattle.expand.specs.Tests.{reads_at}
use Rattle.expand.proofs.reads_in.Goals as goal

pub returns : goal.returns
unfolding reads_at
returns c =
    let e = back c.value_in.type_inv ∙ c.value_in.ensures in
    let f = back_fits c.ranges.z in
    cc
