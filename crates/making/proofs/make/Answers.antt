use Prim.Native.Nat.{ℕ, ◌+◌}
use mathlib.Core.Path.{refl, ap, ◌∙◌}
use native.Mathlib.Omega.{arith}
use Rattle.building.specs.Moves.{Move, track, adopt, drop, cover_by, reach}
use Rattle.building.proofs.Counting.{waiting_few}
use Rattle.held.specs.Held.{state_field, put_in, become_in}
use Rattle.nodes.proofs.Expanded.{variables-some}
use Rattle.making.proofs.Moving.{valid, told_of, in_field, record-there, present, one-waits, made_as, ready_by, made_by}
use Rattle.making.proofs.Becoming.{dropped, targeted, covered}
use Rattle.making.proofs.Tracking.{may-mark, tracked-is, track-grown, adopted-is, adopt-grown}
use Rattle.making.proofs.make.Goals as goal

pub variable_count-vars-requires : goal.variable_count-vars-requires
variable_count-vars-requires c = c.requires.held.model

pub track-requires : goal.track-requires
track-requires c = let R = ready_by c.in-Track.is c.requires in
    let mv : Move = track c.in-Track.n c.in-Track.v in
    let g = told_of mv R in record { vars_le_most_variables = (c.variable_count-vars.ensures.1, omega (arith, in_field mv R g.0), omega (arith, g.1, c.variable_count-vars.ensures.0)); whole = record-there mv R g.0 c.variable_count-vars.ensures.0 }

pub grow_label-requires : goal.grow_label-requires
grow_label-requires c = let R = ready_by c.in-Track.is c.requires in
    let mv : Move = track c.in-Track.n c.in-Track.v in
    let q = may-mark mv R _ (told_of mv R).0 _ _ (tracked-is R c.variable_count-vars.ensures.0 c.track.ensures) in record { valid = q.0; n_lt_nodes = q.1; most_nodes_in_bounds = q.2 }

pub adopt-requires : goal.adopt-requires
adopt-requires c = let R = ready_by c.in-Adopt.is c.requires in
    let mv : Move = adopt c.in-Adopt.n in
    let g = told_of mv R in record { vars_le_most_variables = (c.variable_count-vars.ensures.1, omega (arith, in_field mv R g.0)); whole = record-there mv R g.0 c.variable_count-vars.ensures.0 }

pub grow_label-requires-in-Adopt : goal.grow_label-requires-in-Adopt
grow_label-requires-in-Adopt c = let R = ready_by c.in-Adopt.is c.requires in
    let mv : Move = adopt c.in-Adopt.n in
    let q = may-mark mv R _ (told_of mv R).0 _ _ (adopted-is R c.variable_count-vars.ensures.0 c.adopt.ensures) in record { valid = q.0; n_lt_nodes = q.1; most_nodes_in_bounds = q.2 }

pub make_drop-requires : goal.make_drop-requires
make_drop-requires c = let R = ready_by c.in-Drop.is c.requires in
    let mv : Move = drop c.in-Drop.n in record { present = present mv R (told_of mv R).0 c.variable_count-vars.ensures.0 c.variable_count-vars.ensures.1; waiting_le_nodes = waiting_few R.counts }

pub make_cover-requires : goal.make_cover-requires
make_cover-requires c = let R = ready_by c.in-Cover.is c.requires in
    let mv : Move = cover_by c.in-Cover.n c.in-Cover.c in
    let g = told_of mv R in record { present = present mv R g.0 c.variable_count-vars.ensures.0 c.variable_count-vars.ensures.1; vars_nonzero = (omega (arith, c.variable_count-vars.ensures.0, variables-some (valid mv R)), g.2, R.rows.1, one-waits mv R g.0 g.1) }

pub make_target-requires : goal.make_target-requires
make_target-requires c = let R = ready_by c.in-Reach.is c.requires in
    let mv : Move = reach c.in-Reach.n in
    let g = told_of mv R in record { present = present mv R g.0 c.variable_count-vars.ensures.0 c.variable_count-vars.ensures.1; le_waiting = one-waits mv R g.0 g.1 }

pub make_expanded-requires : goal.make_expanded-requires
make_expanded-requires c = ready_by c.in-Expand.is c.requires

pub returns-in-Track : goal.returns-in-Track
returns-in-Track c =
    let R = ready_by c.in-Track.is c.requires in
    let e = tracked-is R c.variable_count-vars.ensures.0 c.track.ensures in
    made_by c.in-Track.is (made_as c.grow_label.ensures.value refl refl refl (track-grown R e c.grow_label.ensures.marked_reach))

pub returns-in-Adopt : goal.returns-in-Adopt
returns-in-Adopt c =
    let R = ready_by c.in-Adopt.is c.requires in
    let e = adopted-is R c.variable_count-vars.ensures.0 c.adopt.ensures in
    made_by c.in-Adopt.is (made_as c.grow_label-in-Adopt.ensures.value refl refl refl (adopt-grown R e c.grow_label-in-Adopt.ensures.marked_reach))

pub returns-in-Drop : goal.returns-in-Drop
returns-in-Drop c =
    let R = ready_by c.in-Drop.is c.requires in
    made_by c.in-Drop.is
    (made_as c.make_drop.ensures.value (c.make_drop.ensures.nb_after ∙ ap (λ (v : ℕ). become_in v c.args.nb.now c.in-Drop.n 0 0) c.variable_count-vars.ensures.0) c.make_drop.ensures.marks_after refl (dropped R))

pub returns-in-Cover : goal.returns-in-Cover
returns-in-Cover c =
    let R = ready_by c.in-Cover.is c.requires in
    let n : ℕ = c.in-Cover.n in
    let by : ℕ = c.in-Cover.c in
    made_by c.in-Cover.is
    (made_as c.make_cover.ensures.value (c.make_cover.ensures.nb_after ∙ ap (λ (v : ℕ). put_in v (become_in v c.args.nb.now n 2 by) n (state_field + v) by) c.variable_count-vars.ensures.0) c.make_cover.ensures.marks_after c.make_cover.ensures.reaches_after (covered R))

pub returns-in-Reach : goal.returns-in-Reach
returns-in-Reach c =
    let R = ready_by c.in-Reach.is c.requires in
    made_by c.in-Reach.is
    (made_as c.make_target.ensures.value (c.make_target.ensures.nb_after ∙ ap (λ (v : ℕ). become_in v c.args.nb.now c.in-Reach.n 3 0) c.variable_count-vars.ensures.0) c.make_target.ensures.marks_after refl (targeted R))

pub returns-in-Expand : goal.returns-in-Expand
returns-in-Expand c = made_by c.in-Expand.is c.make_expanded.ensures
