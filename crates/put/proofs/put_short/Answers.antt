use Rattle.std.proofs.Common.{rules}
use Rattle.put.specs.Put.{put2}
use Rattle.put.proofs.put_short.Goals as goal

pub returns : goal.returns
unfolding put2
returns c = search rules
