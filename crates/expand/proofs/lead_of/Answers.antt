use Prim.Native.Nat.{◌+◌, ◌*◌}
use mathlib.Core.Path.{refl}
use native.Mathlib.Omega.{arith}
use Rattle.folder.proofs.ContentsLaws.{product_small}
use Rattle.expand.proofs.lead_of.Goals as goal

pub overflow_mul-from-2 : goal.overflow_mul-from-2
overflow_mul-from-2 c = omega (arith, product_small (2 + 2 * c.args.vars) c.args.r (omega arith) c.requires.vars_le_most_variables.1)

pub returns : goal.returns
returns c = (refl, refl, c.u16_in-set.ensures.0)

pub overflow_mul-to-2 : goal.overflow_mul-to-2
overflow_mul-to-2 c = omega (arith, c.requires.vars_in_bounds, c.well_formed)

pub overflow_add-to-2 : goal.overflow_add-to-2
overflow_add-to-2 c = omega (arith, c.requires.vars_in_bounds, c.well_formed)

pub u16_in-set-requires : goal.u16_in-set-requires
u16_in-set-requires c = omega (arith, c.requires.vars_in_bounds)
