use mathlib.Core.Path.{sym, ◌∙◌}
use Rattle.folder.proofs.FillLaws.{fill_start, fill-next, fill-over}
use Rattle.rounds.proofs.RoundLaws.{own-start}
use native.Mathlib.Omega.{arith}
use Rattle.rounds.proofs.fill_start.Goals as goal

pub loop-n-preserved : goal.loop-n-preserved
loop-n-preserved c =
    fill-next c.loop-n.invariant c.loop-n-test.true (omega (arith, c.node_count-nodes.ensures.value))
    (c.figure_by.ensures ∙ rw (c.field-kind.ensures.0, c.node_size-size.ensures.0, c.nodes-nb.ensures) (sym (own-start _ _ c.loop-n.n)))

pub returns : goal.returns
returns c = fill-over c.loop-n.invariant (omega arith) c.node_count-nodes.ensures.value

pub loop-n-init : goal.loop-n-init
loop-n-init c = fill_start _ _ _
