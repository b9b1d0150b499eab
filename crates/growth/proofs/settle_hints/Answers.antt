use Rattle.growth.proofs.Settling.{settled_same, settled-lowered, lowers}
use Rattle.growth.proofs.settle_hints.Goals as goal

pub lower_hints-requires : goal.lower_hints-requires
lower_hints-requires c =
    let v = lowers c.requires.held c.if-w.true c.variable_count.ensures.0 c.variable_count.ensures.1 in
    record { vars_nonzero = v.0; nodes_in_bounds = v.1 }

pub returns-then-w : goal.returns-then-w
returns-then-w c = settled-lowered _ _ _ _ c.variable_count.ensures.0 c.lower_hints.ensures c.if-w.true c.requires.hint_right

pub returns-else-w : goal.returns-else-w
returns-else-w c = settled_same _ _ _ c.if-w.false c.requires.hint_right
