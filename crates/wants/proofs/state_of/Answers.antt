use mathlib.Core.Path.{sym, ap, ◌∙◌}
use native.Mathlib.Omega.{arith}
use lib.ListN.{length}
use Rattle.folder.specs.Contents.{count_of}
use Rattle.folder.proofs.TabLaws.{length-tab}
use Rattle.folder.proofs.FillLaws.{take-filled}
use Rattle.expressions.specs.Limits.{most_expressions}
use Rattle.model.proofs.Limits.{limits}
use Rattle.expand.proofs.Ready.{grounded-as}
use Rattle.wants.proofs.Here.{loaded, none-flagged, stated-as, state-grounded}
use Rattle.wants.proofs.state_of.Goals as goal

pub slice_bounds-fill_state-end : goal.slice_bounds-fill_state-end
slice_bounds-fill_state-end c = sym (ap length (take-filled _ _ _ c.load_row.ensures) ∙ length-tab _ _)

pub fill_state-requires : goal.fill_state-requires
fill_state-requires c = let e = ap (count_of 8) c.body.ensures in
    let k = (limits c.requires.node_here.model.folder).expressions in
    let l = loaded _ _ _ _ c.variable_count-vars.ensures.0 c.load_row.ensures in record { grounded = grounded-as c.body.ensures l (state-grounded c.requires.node_here); has_flagged = none-flagged _ _ _ most_expressions; x_bound = (omega arith, omega arith) }

pub returns : goal.returns
returns c = stated-as c.body.ensures (loaded _ _ _ _ c.variable_count-vars.ensures.0 c.load_row.ensures) c.fill_state.ensures
