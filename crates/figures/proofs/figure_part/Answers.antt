use mathlib.Core.Path.{sym, ap, ◌∙◌}
use lib.ListN.{length}
use Rattle.figures.proofs.CallLaws.{first-held, second-held, part_length}
use Rattle.figures.proofs.figure_part.Goals as goal

pub slice_bounds-result-end : goal.slice_bounds-result-end
slice_bounds-result-end c =
    part_length c.args.m.now c.args.g.now c.args.h c.args.first.now c.args.second.now c.figure_fill.ensures.value c.in-Ok.is c.requires c.node_count-n.ensures
    ∙ ap length (sym (first-held c.args.m.now c.args.g.now c.args.h c.args.first.now c.args.second.now c.figure_fill.ensures.value c.in-Ok.is c.requires c.node_count-n.ensures c.figure_fill.ensures.first_after c.if-h-eq0.true))

pub slice_bounds-result-end-in-Ok-2 : goal.slice_bounds-result-end-in-Ok-2
slice_bounds-result-end-in-Ok-2 c =
    part_length c.args.m.now c.args.g.now c.args.h c.args.first.now c.args.second.now c.figure_fill.ensures.value c.in-Ok-2.is c.requires c.node_count-n.ensures
    ∙ ap length (sym (second-held c.args.m.now c.args.g.now c.args.h c.args.first.now c.args.second.now c.figure_fill.ensures.value c.in-Ok-2.is c.requires c.node_count-n.ensures c.figure_fill.ensures.second_after c.if-h-eq0.false))

pub returns-in-Ok-clause-result_value : goal.returns-in-Ok-clause-result_value
returns-in-Ok-clause-result_value c =
    first-held c.args.m.now c.args.g.now c.args.h c.args.first.now c.args.second.now c.figure_fill.ensures.value c.in-Ok.is c.requires c.node_count-n.ensures c.figure_fill.ensures.first_after c.if-h-eq0.true

pub returns-in-Ok-2-clause-result_value : goal.returns-in-Ok-2-clause-result_value
returns-in-Ok-2-clause-result_value c =
    second-held c.args.m.now c.args.g.now c.args.h c.args.first.now c.args.second.now c.figure_fill.ensures.value c.in-Ok-2.is c.requires c.node_count-n.ensures c.figure_fill.ensures.second_after c.if-h-eq0.false
