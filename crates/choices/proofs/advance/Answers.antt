use mathlib.Core.Path.{◌∙◌}
use native.Mathlib.Omega.{arith}
use borrow.Author.Rules.{rules}
use Rattle.folder.proofs.Signed.{back}
use Rattle.choices.proofs.Moving.{moving-start, moving-over, moving-next, moving-found}
use Rattle.choices.proofs.advance.Goals as goal

pub returns-then-stops_at : goal.returns-then-stops_at
returns-then-stops_at c =
    moving-found c.loop-v.invariant c.requires.ranged c.requires.row_len c.requires.row_len c.loop-v-test.true (search rules)
    (back c.next_value.type_inv ∙ c.next_value.ensures) c.stops_at.ensures c.if-stops_at.true

pub loop-v-preserved : goal.loop-v-preserved
loop-v-preserved c =
    moving-next c.loop-v.invariant c.requires.ranged c.requires.row_len c.requires.row_len c.loop-v-test.true (search rules)
    (back c.next_value.type_inv ∙ c.next_value.ensures) c.stops_at.ensures c.if-stops_at.false

pub returns : goal.returns
returns c =
    moving-over c.loop-v.invariant c.requires.ranged c.requires.row_len (omega arith)

pub loop-v-init : goal.loop-v-init
loop-v-init c = moving-start _ _ _ _ _
