use mathlib.Core.Path.{sym, ap, ◌∙◌}
use lib.ListN.{length}
use Rattle.folder.proofs.TabLaws.{length-tab}
use Rattle.folder.proofs.FillLaws.{take-filled}
use Rattle.wants.proofs.Here.{field-read, loaded, asked-as, widened-as}
use Rattle.wants.proofs.widen.Goals as goal

pub slice_bounds-widen-end : goal.slice_bounds-widen-end
slice_bounds-widen-end c = sym (ap length (take-filled _ _ _ c.load_row.ensures) ∙ length-tab _ _)

pub widen-requires : goal.widen-requires
widen-requires c =
    let l = loaded _ _ _ _ c.variable_count-vars.ensures.0 c.load_row.ensures in
    let t = field-read _ _ _ _ c.variable_count-vars.ensures.0 c.node_size.ensures.0 c.field-set.ensures.0 in
    asked-as c.requires.node_read c.requires.e_bound.0 c.requires.e_bound.1 c.body-x.ensures c.body-y.ensures l t

pub returns : goal.returns
returns c =
    let l = loaded _ _ _ _ c.variable_count-vars.ensures.0 c.load_row.ensures in
    let t = field-read _ _ _ _ c.variable_count-vars.ensures.0 c.node_size.ensures.0 c.field-set.ensures.0 in
    widened-as c.requires.node_read c.requires.e_bound.0 c.requires.e_bound.1 c.body-x.ensures c.body-y.ensures l t c.widen.ensures
