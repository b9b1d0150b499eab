use Rattle.covers.proofs.CoverLaws.{waiting-is}
use Rattle.covers.proofs.is_waiting.Goals as goal

pub returns : goal.returns
returns c = waiting-is _
