use mathlib.Core.Path.{refl}
use native.Mathlib.Omega.{arith}
use Rattle.expand.proofs.edge_at.Goals as goal

pub bounds-firsts-c : goal.bounds-firsts-c
bounds-firsts-c c = omega (arith, c.requires.p_in_bounds, c.u16_at-c.ensures.0)

pub field-branches-requires : goal.field-branches-requires
field-branches-requires c = omega (arith, c.u16_at-c.ensures.1)

pub returns : goal.returns
returns c = (refl, rw c.u16_at-c.ensures.0 refl, rw c.u16_at-c.ensures.0 at c.field-branches.ensures.0, c.field-branches.ensures.1)
