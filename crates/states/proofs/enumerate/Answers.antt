use Rattle.states.proofs.Looking.{combination-grounded}
use Rattle.states.proofs.enumerate.Goals as goal

pub refresh-requires-clause-grounded : goal.refresh-requires-clause-grounded
refresh-requires-clause-grounded c = combination-grounded _ _ _ _ c.requires.readable _ _ c.loop.invariant.0.at
