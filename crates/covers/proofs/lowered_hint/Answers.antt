use Rattle.covers.proofs.CoverLaws.{field-by, hint-lowered, hint-apart, hint-low}
use Rattle.covers.proofs.lowered_hint.Goals.{else-n-hint-via-then-n-hint+else-agrees, else-n-hint-via-else-n-hint}
use Rattle.covers.proofs.lowered_hint.Goals as goal

pub returns-then-agrees : goal.returns-then-agrees
returns-then-agrees c = (hint-lowered _ _ _ _ (field-by _ _ _ _ c.node_size.ensures.0 c.field-hint.ensures.0) c.if-n-hint.true c.agrees.ensures c.if-agrees.true, c.requires.1)

pub returns-else-n-hint : goal.returns-else-n-hint
returns-else-n-hint c =
    let h = field-by _ _ _ _ c.node_size.ensures.0 c.field-hint.ensures.0 in
    elim c.else-n-hint.branch [
      | else-n-hint-via-then-n-hint+else-agrees w ↦ (hint-apart _ _ _ _ h w.if-n-hint.true w.agrees.ensures w.if-agrees.false, c.field-hint.ensures.1)
      | else-n-hint-via-else-n-hint w ↦ (hint-low _ _ _ _ h w.if-n-hint.false, c.field-hint.ensures.1)
    ]
