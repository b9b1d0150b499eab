use Prim.Native.Nat.{ℕ}
use mathlib.Core.Path.{ap, ap₂}
use mathlib.Core.Bool.{◌&&◌}
use lib.Dec.{eqb}
use Rattle.entries.proofs.second_unused.Goals as goal

pub returns : goal.returns
returns c = ap₂ ◌&&◌ (ap (λ (n : ℕ). eqb n 0) c.field.ensures.0) c.third_unused.ensures
