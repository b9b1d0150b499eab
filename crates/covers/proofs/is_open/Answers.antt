use Rattle.covers.proofs.CoverLaws.{open_is}
use Rattle.covers.proofs.is_open.Goals as goal

pub returns : goal.returns
returns c = open_is _
