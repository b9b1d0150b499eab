use native.Mathlib.Omega.{arith}
use Rattle.folder.proofs.Signed.{back16}
use Rattle.hash.proofs.Laws.{bits-cast}
use Rattle.hash.proofs.bits_of.Goals as goal

pub returns : goal.returns
returns c = (cc (bits-cast c.args.x, back16 c.ranges.x.sfits), omega arith)
