use mathlib.Core.Path.{sym, ap, ◌∙◌}
use native.Mathlib.Omega.{arith}
use lib.ListN.{length}
use Rattle.folder.specs.Contents.{count_of}
use Rattle.folder.proofs.TabLaws.{length-tab}
use Rattle.folder.proofs.FillLaws.{take-filled}
use Rattle.model.proofs.Limits.{limits}
use Rattle.expand.proofs.Ready.{grounded-as, state-loaded, state-grounded, flagged-as, stated-as}
use Rattle.expand.proofs.settle_state.Goals as goal

pub slice_bounds-fill_state-end : goal.slice_bounds-fill_state-end
slice_bounds-fill_state-end c = sym (ap length (take-filled _ _ _ c.load_row.ensures) ∙ length-tab _ _)

pub fill_state-requires : goal.fill_state-requires
fill_state-requires c = let e = ap (count_of 8) c.body-x.ensures in
    let k = (limits c.requires.node_of.model.folder).expressions in
    let l = state-loaded c.requires.node_of _ c.variable_count-vars.ensures.0 c.body-nb.ensures c.load_row.ensures in record { grounded = grounded-as c.body-x.ensures l (state-grounded c.requires.node_of); has_flagged = flagged-as c.requires.node_of c.body-x.ensures l c.requires.flagged_settled; x_bound = (omega arith, omega arith) }

pub returns : goal.returns
returns c = stated-as c.requires.node_of c.body-x.ensures (state-loaded c.requires.node_of _ c.variable_count-vars.ensures.0 c.body-nb.ensures c.load_row.ensures) c.fill_state.ensures
