use mathlib.Core.Path.{◌∙◌}
use Rattle.covers.proofs.CoverLaws.{field-by, cover-open, cover-shut}
use Rattle.covers.proofs.can_cover.Goals as goal

pub returns-then-is_open : goal.returns-then-is_open
returns-then-is_open c = cover-open _ _ _ _ (field-by _ _ _ _ c.node_size.ensures.0 c.field-k.ensures.0) c.is_open.ensures c.if-is_open.true c.agrees.ensures

pub returns-else-is_open : goal.returns-else-is_open
returns-else-is_open c = c.if-is_open.false ∙ cover-shut _ _ _ _ (field-by _ _ _ _ c.node_size.ensures.0 c.field-k.ensures.0) c.is_open.ensures c.if-is_open.false
