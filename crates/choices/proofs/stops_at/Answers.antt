use mathlib.Core.Path.{ap₂}
use mathlib.Core.Bool.{◌&&◌}
use native.Mathlib.Omega.{arith}
use lib.Signed.{lt_z}
use Rattle.folder.proofs.Signed.{back, back_fits}
use Rattle.choices.specs.Next.{stops_at}
use Rattle.choices.proofs.stops_at.Goals as goal

pub returns : goal.returns
unfolding stops_at
returns c =
    ap₂ ◌&&◌ c.is_free.ensures (ap₂ lt_z (back_fits c.ranges.z) (rw c.range_at.ensures (back (omega (arith, c.requires.ranged.high_small c.args.v c.requires.v_bound)))))
