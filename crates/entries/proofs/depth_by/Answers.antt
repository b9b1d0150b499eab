use Rattle.entries.specs.Depth.{depth_by}
use Rattle.entries.proofs.depth_by.Goals as goal

pub returns : goal.returns
unfolding depth_by
returns c = cc
