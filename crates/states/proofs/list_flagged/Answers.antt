use native.Mathlib.Omega.{arith}
use Rattle.folder.proofs.ListLaws.{list-start, list-room, list-next}
use Rattle.states.proofs.list_flagged.Goals as goal

pub list_one-count-requires : goal.list_one-count-requires
list_one-count-requires c = (list-room c.loop-e.invariant c.loop-e-test.true c.requires.0, omega arith)

pub loop-e-preserved : goal.loop-e-preserved
loop-e-preserved c = list-next c.loop-e.invariant c.loop-e-test.true c.requires.0 c.list_one-count.ensures.value c.list_one-count.ensures.list_after

pub loop-e-init : goal.loop-e-init
loop-e-init c = list-start _ _ _
