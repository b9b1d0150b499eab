use mathlib.Core.Path.{ap, ◌∙◌}
use lib.ListN.{get_or}
use Rattle.folder.proofs.FillLaws.{fill_start, fill-next, filled-ahead}
use Rattle.states.specs.Needed.{either_up}
use Rattle.states.proofs.raise_all.Goals as goal

pub loop-k-preserved : goal.loop-k-preserved
loop-k-preserved c = fill-next c.loop-k.invariant c.loop-k-test.true c.requires.1 (c.either_up.ensures ∙ ap (either_up (get_or c.args.other.now c.loop-k.k 0)) (filled-ahead c.loop-k.invariant 0))

pub loop-k-init : goal.loop-k-init
loop-k-init c = fill_start _ _ _
