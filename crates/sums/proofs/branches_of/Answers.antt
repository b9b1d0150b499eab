use Rattle.folder.specs.Contents.{field}
use Rattle.sums.proofs.branches_of.Goals as goal

pub returns : goal.returns
unfolding field
returns c = c.u16_in.ensures
