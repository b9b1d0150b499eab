use mathlib.Core.Path.{sym, ◌∙◌}
use Rattle.growth.proofs.Lowest.{waiting-asked, cover-asked, waiting-within, grows_none, grows-cover, grows-open}
use Rattle.growth.proofs.growth_of.Goals as goal

pub returns-then-w-eq0 : goal.returns-then-w-eq0
returns-then-w-eq0 c = grows_none _ _ _ (sym c.requires.next_le_nodes.1 ∙ c.if-w-eq0.true) _

pub lowest_waiting-n-requires : goal.lowest_waiting-n-requires
lowest_waiting-n-requires c =
    let v = waiting-asked c.requires.held c.variable_count-vars.ensures.0 c.variable_count-vars.ensures.1 (λ z. c.if-w-eq0.false (c.requires.next_le_nodes.1 ∙ z)) c.requires.next_le_nodes.0 c.requires.next_right in
    record { vars_le_most_variables = v.0; some_waits = v.1 }

pub lowest_cover-c-requires : goal.lowest_cover-c-requires
lowest_cover-c-requires c =
    let v = cover-asked c.requires.held c.variable_count-vars.ensures.0 c.variable_count-vars.ensures.1 (λ z. c.if-w-eq0.false (c.requires.next_le_nodes.1 ∙ z)) c.lowest_waiting-n.ensures c.requires.hint_right in
    record { vars_le_most_variables = v.0; by_index = v.1 }

pub returns-then-c-w : goal.returns-then-c-w
returns-then-c-w c = grows-cover _ _ _ c.variable_count-vars.ensures.0 (λ z. c.if-w-eq0.false (c.requires.next_le_nodes.1 ∙ z)) c.lowest_waiting-n.ensures c.lowest_cover-c.ensures _ c.if-c-w.true

pub opening_of-requires : goal.opening_of-requires
opening_of-requires c = record { held = c.requires.held; lent = c.requires.lent; n_lt_nodes = waiting-within _ _ _ c.variable_count-vars.ensures.0 c.lowest_waiting-n.ensures (λ z. c.if-w-eq0.false (c.requires.next_le_nodes.1 ∙ z)) }

pub returns : goal.returns
returns c = grows-open _ _ _ c.variable_count-vars.ensures.0 (λ z. c.if-w-eq0.false (c.requires.next_le_nodes.1 ∙ z)) c.lowest_waiting-n.ensures c.lowest_cover-c.ensures _ c.if-c-w.false c.opening_of.ensures
