use mathlib.Core.Path.{sym, ap, ◌∙◌}
use native.Mathlib.Omega.{arith}
use lib.ListN.{length}
use Rattle.folder.specs.Contents.{count_of}
use Rattle.folder.proofs.TabLaws.{length-tab}
use Rattle.folder.proofs.FillLaws.{take-filled}
use Rattle.evaluate.proofs.Rows.{filled}
use Rattle.model.proofs.Limits.{limits}
use Rattle.expand.proofs.Ready.{settled-as, grounded-as, ready-as}
use Rattle.wants.proofs.Here.{field-read, loaded, flagged-as, stated-as, state-grounded, label-ready, label-flagged, label-stated}
use Rattle.wants.proofs.settle.Goals as goal

pub slice_bounds-settle-end : goal.slice_bounds-settle-end
slice_bounds-settle-end c = sym (ap length (take-filled _ _ _ c.load_row.ensures) ∙ length-tab _ _)

pub settle-requires : goal.settle-requires
settle-requires c = let e = ap (count_of 8) c.body-x.ensures in
    let k = (limits c.requires.node_here.model.folder).expressions in
    let l = loaded _ _ _ _ c.variable_count-vars.ensures.0 c.load_row.ensures in
    let t = field-read _ _ _ _ c.variable_count-vars.ensures.0 c.node_size.ensures.0 c.field-set.ensures.0 in record { ready = ready-as c.body-x.ensures t l (label-ready c.requires.node_here); x_bound = omega arith; x_in_bounds = (omega arith, omega arith) }

pub slice_bounds-fill_state-end : goal.slice_bounds-fill_state-end
slice_bounds-fill_state-end c = sym (ap length (take-filled _ _ _ c.load_row.ensures) ∙ length-tab _ _)

pub fill_state-requires : goal.fill_state-requires
fill_state-requires c = let e = ap (count_of 8) c.body-x.ensures in
    let k = (limits c.requires.node_here.model.folder).expressions in
    let l = loaded _ _ _ _ c.variable_count-vars.ensures.0 c.load_row.ensures in
    let t = field-read _ _ _ _ c.variable_count-vars.ensures.0 c.node_size.ensures.0 c.field-set.ensures.0 in
    let s = settled-as c.body-x.ensures t l (filled _ _ _ _ _ c.settle.ensures.known_after c.settle.ensures.values_after) in record { grounded = grounded-as c.body-x.ensures l (state-grounded c.requires.node_here); has_flagged = flagged-as c.body-x.ensures l (label-stated c.requires.node_here s); x_bound = (omega arith, omega arith) }

pub returns : goal.returns
returns c = let l = loaded _ _ _ _ c.variable_count-vars.ensures.0 c.load_row.ensures in
    let t = field-read _ _ _ _ c.variable_count-vars.ensures.0 c.node_size.ensures.0 c.field-set.ensures.0 in
    let s = settled-as c.body-x.ensures t l (filled _ _ _ _ _ c.settle.ensures.known_after c.settle.ensures.values_after) in record { label_flagged = label-flagged c.requires.node_here s; state_settled = stated-as c.body-x.ensures l c.fill_state.ensures }
