use Rattle.states.proofs.Entries.{stated-parted}
use Rattle.states.proofs.fill_state.Goals as goal

pub entry_kept-requires-clause-parted : goal.entry_kept-requires-clause-parted
entry_kept-requires-clause-parted c = stated-parted _ _ _ _ c.loop-e.invariant c.requires.grounded
