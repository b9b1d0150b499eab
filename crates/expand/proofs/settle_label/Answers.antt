use mathlib.Core.Path.{sym, ap, ◌∙◌}
use native.Mathlib.Omega.{arith}
use lib.ListN.{length}
use Rattle.folder.specs.Contents.{count_of}
use Rattle.folder.proofs.TabLaws.{length-tab}
use Rattle.folder.proofs.FillLaws.{take-filled}
use Rattle.model.proofs.Limits.{limits}
use Rattle.evaluate.proofs.Rows.{filled}
use Rattle.expand.proofs.Ready.{settled-as, ready-as, label-loaded, label-ready, label-flagged, label-stated}
use Rattle.expand.proofs.settle_label.Goals as goal

pub slice_bounds-settle-end : goal.slice_bounds-settle-end
slice_bounds-settle-end c = sym (ap length (take-filled _ _ _ c.load_row.ensures) ∙ length-tab _ _)

pub settle-requires : goal.settle-requires
settle-requires c = let e = ap (count_of 8) c.body-x.ensures in
    let k = (limits c.requires.node_of.model.folder).expressions in record { ready = ready-as c.body-x.ensures c.node_field-set.ensures.0 (label-loaded c.requires.node_of _ c.variable_count-vars.ensures.0 c.body-nb.ensures c.load_row.ensures) (label-ready c.requires.node_of c.requires.n_value); x_bound = omega arith; x_in_bounds = (omega arith, omega arith) }

pub returns : goal.returns
returns c = let s =
    settled-as c.body-x.ensures c.node_field-set.ensures.0 (label-loaded c.requires.node_of _ c.variable_count-vars.ensures.0 c.body-nb.ensures c.load_row.ensures)
    (filled _ _ _ _ _ c.settle.ensures.known_after c.settle.ensures.values_after) in record { label_flagged = label-flagged c.requires.node_of c.requires.n_value s; flagged_settled = label-stated c.requires.node_of c.requires.n_value s }
