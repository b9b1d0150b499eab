use mathlib.Core.Path.{refl, ap, sym, ◌∙◌}
use mathlib.Core.Bool.{not}
use borrow.Author.Tests.{eq-eqb, ne_eqb}
use Rattle.slots.proofs.RowLaws.{other-hash}
use Rattle.slots.proofs.passes.Goals as goal

pub returns-then-other_hash : goal.returns-then-other_hash
returns-then-other_hash c =
    c.if-other_hash.true
    ∙ other-hash c.requires.1 c.args.r c.args.x.now c.requires.2 (sym c.other_hash.ensures ∙ c.if-other_hash.true)

pub returns-then-r-ne-NO_NODE : goal.returns-then-r-ne-NO_NODE
returns-then-r-ne-NO_NODE c = rw (ne_eqb _ _ c.if-r-ne-NO_NODE.true) (ap not c.label_is.ensures)

pub returns-else-r-ne-NO_NODE : goal.returns-else-r-ne-NO_NODE
returns-else-r-ne-NO_NODE c = rw (eq-eqb _ _ c.if-r-ne-NO_NODE.false) refl
