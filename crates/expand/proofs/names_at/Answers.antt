use Prim.Native.Nat.{ℕ}
use mathlib.Core.Path.{ap}
use mathlib.Core.Bool.{◌&&◌}
use lib.Dec.{ltb, eqb}
use Rattle.expand.proofs.names_at.Goals as goal

pub returns : goal.returns
returns c = ap (λ (u : ℕ). ltb c.args.k c.args.edges && eqb u c.args.c) c.u16_at.ensures.0
