use mathlib.Core.Path.{sym, ap, ◌∙◌}
use lib.ListN.{length}
use Rattle.folder.proofs.TabLaws.{length-tab}
use Rattle.folder.proofs.FillLaws.{take-filled}
use Rattle.expand.proofs.Ready.{label-loaded, asked-as, widened-as}
use Rattle.expand.proofs.widen.Goals as goal

pub slice_bounds-widen-end : goal.slice_bounds-widen-end
slice_bounds-widen-end c = sym (ap length (take-filled _ _ _ c.load_row.ensures) ∙ length-tab _ _)

pub widen-requires : goal.widen-requires
widen-requires c =
    asked-as c.requires.askable.node c.requires.askable.kept c.requires.askable.read c.requires.askable.masked c.requires.e_bound.0 c.requires.e_bound.1 c.body-x.ensures c.body-y.ensures
    (label-loaded c.requires.askable.node _ c.variable_count-vars.ensures.0 c.body-nb.ensures c.load_row.ensures) c.node_field-set.ensures.0

pub returns : goal.returns
returns c =
    widened-as c.requires.askable.node c.requires.askable.kept c.requires.askable.read c.requires.askable.masked c.requires.e_bound.0 c.requires.e_bound.1 c.body-x.ensures c.body-y.ensures
    (label-loaded c.requires.askable.node _ c.variable_count-vars.ensures.0 c.body-nb.ensures c.load_row.ensures) c.node_field-set.ensures.0 c.widen.ensures
