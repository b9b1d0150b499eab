use native.Mathlib.Omega.{arith}
use Rattle.evaluate.proofs.Readable.{ready}
use Rattle.step.proofs.StepLaws.{assigning, values-next}
use Rattle.step.proofs.put_next.Goals as goal

pub settle-requires : goal.settle-requires
settle-requires c = record { ready = ready _ _ c.requires.stepping.grounded; x_bound = omega (arith, c.requires.stepping.entries); x_in_bounds = (omega (arith, c.requires.stepping.entries), omega (arith, c.requires.stepping.entries)) }

pub put_values-requires : goal.put_values-requires
put_values-requires c = record { assigning = assigning c.requires.stepping _ _ c.settle.ensures.known_after c.settle.ensures.values_after; n_in_bounds = c.requires.s_in_bounds }

pub returns : goal.returns
returns c =
    values-next c.requires.stepping _ _ c.settle.ensures.known_after c.settle.ensures.values_after c.args.res.now c.put_values.ensures
