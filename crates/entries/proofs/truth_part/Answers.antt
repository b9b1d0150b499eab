use mathlib.Core.Path.{ap}
use mathlib.Core.Bool.{Bool, ◌&&◌}
use lib.Dec.{ltb}
use Rattle.entries.proofs.truth_part.Goals as goal

pub returns : goal.returns
returns c =
    ap (λ (t : Bool). ltb c.args.p c.args.e && t) c.is_truth.ensures
