use Prim.Native.Nat.{◌+◌, ◌*◌, ◌^◌, ◌<◌, ◌≤◌}
use mathlib.Core.Path.{◌≡◌, refl, sym, ap, ◌∙◌}
use native.Mathlib.Omega.{arith}
use Rattle.folder.specs.Scan.{first_bad, all}
use Rattle.folder.proofs.ScanLaws.{scan-next, scan-found, all-fails, all_pass}
use Rattle.graph.specs.Limits.{most_bytes}
use Rattle.graph.specs.Simulation.{edge_at}
use Rattle.graph.proofs.EdgePlaces.{place-over}
use Rattle.expand.proofs.Sizes.{cursor-small}
use Rattle.expand.proofs.FollowLaws.{EdgeHere, EdgeRead, Held, followed-scan, scan-followed, next-stands, first-there, all-lead, records-fit, edge-passes, edge-breaks, branch-found, second-found}
use Rattle.expand.proofs.edges_follow.Goals as goal

pub loop-e-init : goal.loop-e-init
loop-e-init c = (followed-scan c.requires.followed_to c.node_field-edges.ensures.0, c.requires.followed_to.stands)

pub edge_at-edge-requires : goal.edge_at-edge-requires
edge_at-edge-requires c = let cursor : c.loop-e.p ≤ most_bytes = cursor-small c.requires.node_of c.loop-e.e c.node_field-edges.ensures.0 c.loop-e.invariant.0.within c.loop-e.invariant.1 in
    let here : EdgeHere c.args.m.now c.args.g.now c.args.n c.body-eb.result.now c.node_field-edges.result c.loop-e.e c.loop-e.p = record { edges-in = c.body-eb.ensures; count = c.node_field-edges.ensures.0; within = c.loop-e-test.true; stands = c.loop-e.invariant.1 } in record { p_bound = omega (arith, cursor); p_in_bounds = first-there c.requires.node_of here c.requires.firsts_of }

pub first_bad_branch-b-requires : goal.first_bad_branch-b-requires
first_bad_branch-b-requires c = let cursor : c.loop-e.p ≤ most_bytes = cursor-small c.requires.node_of c.loop-e.e c.node_field-edges.ensures.0 c.loop-e.invariant.0.within c.loop-e.invariant.1 in
    let held : Held c.args.m.now c.args.g.now c.variable_count-vars.result c.body-bs.result.now c.body-nb.result.now = record { variables = c.variable_count-vars.ensures.0; records-in = c.body-bs.ensures; nodes-in = c.body-nb.ensures } in
    let here : EdgeHere c.args.m.now c.args.g.now c.args.n c.body-eb.result.now c.node_field-edges.result c.loop-e.e c.loop-e.p = record { edges-in = c.body-eb.ensures; count = c.node_field-edges.ensures.0; within = c.loop-e-test.true; stands = c.loop-e.invariant.1 } in
    let read : EdgeRead c.args.m.now c.args.g.now c.args.n c.body-cs.result.now c.body-eb.result.now c.args.firsts.now c.node_field-edges.result c.loop-e.e c.loop-e.p
    c.edge_at-edge.result.at c.edge_at-edge.result.first c.edge_at-edge.result.branches = record { here = here; commands-in = c.body-cs.ensures; same = c.edge_at-edge.ensures.0; starting = c.edge_at-edge.ensures.1; branching = c.edge_at-edge.ensures.2 } in record { vars_le_most_variables = (c.variable_count-vars.ensures.1, records-fit c.requires.node_of read c.requires.firsts_of, omega (arith, cursor, c.edge_at-edge.ensures.0)); all_lead = all-lead c.requires.node_of read c.requires.firsts_of held; rows_long = c.requires.rows_long }

pub overflow_add-branch : goal.overflow_add-branch
overflow_add-branch c =
    let here : EdgeHere c.args.m.now c.args.g.now c.args.n c.body-eb.result.now c.node_field-edges.result c.loop-e.e c.loop-e.p = record { edges-in = c.body-eb.ensures; count = c.node_field-edges.ensures.0; within = c.loop-e-test.true; stands = c.loop-e.invariant.1 } in
    let read : EdgeRead c.args.m.now c.args.g.now c.args.n c.body-cs.result.now c.body-eb.result.now c.args.firsts.now c.node_field-edges.result c.loop-e.e c.loop-e.p
    c.edge_at-edge.result.at c.edge_at-edge.result.first c.edge_at-edge.result.branches = record { here = here; commands-in = c.body-cs.ensures; same = c.edge_at-edge.ensures.0; starting = c.edge_at-edge.ensures.1; branching = c.edge_at-edge.ensures.2 } in
    omega (arith, records-fit c.requires.node_of read c.requires.firsts_of, c.if-b-edge.true)

pub apart_by-requires : goal.apart_by-requires
apart_by-requires c = let held : Held c.args.m.now c.args.g.now c.variable_count-vars.result c.body-bs.result.now c.body-nb.result.now = record { variables = c.variable_count-vars.ensures.0; records-in = c.body-bs.ensures; nodes-in = c.body-nb.ensures } in
    let here : EdgeHere c.args.m.now c.args.g.now c.args.n c.body-eb.result.now c.node_field-edges.result c.loop-e.e c.loop-e.p = record { edges-in = c.body-eb.ensures; count = c.node_field-edges.ensures.0; within = c.loop-e-test.true; stands = c.loop-e.invariant.1 } in
    let read : EdgeRead c.args.m.now c.args.g.now c.args.n c.body-cs.result.now c.body-eb.result.now c.args.firsts.now c.node_field-edges.result c.loop-e.e c.loop-e.p
    c.edge_at-edge.result.at c.edge_at-edge.result.first c.edge_at-edge.result.branches = record { here = here; commands-in = c.body-cs.ensures; same = c.edge_at-edge.ensures.0; starting = c.edge_at-edge.ensures.1; branching = c.edge_at-edge.ensures.2 } in
    let k = records-fit c.requires.node_of read c.requires.firsts_of in record { vars_le_most_variables = (c.variable_count-vars.ensures.1, omega (arith, k, c.if-b-edge.true), omega (arith, c.u16_at-s.ensures.1)); leads = rw (c.u16_at-s.ensures.0, ← c.edge_at-edge.ensures.0) ((all-lead c.requires.node_of read c.requires.firsts_of held).each _ c.if-b-edge.true); rows_long = c.requires.rows_long }

pub returns-then-b-edge : goal.returns-then-b-edge
returns-then-b-edge c = let held : Held c.args.m.now c.args.g.now c.variable_count-vars.result c.body-bs.result.now c.body-nb.result.now = record { variables = c.variable_count-vars.ensures.0; records-in = c.body-bs.ensures; nodes-in = c.body-nb.ensures } in
    let here : EdgeHere c.args.m.now c.args.g.now c.args.n c.body-eb.result.now c.node_field-edges.result c.loop-e.e c.loop-e.p = record { edges-in = c.body-eb.ensures; count = c.node_field-edges.ensures.0; within = c.loop-e-test.true; stands = c.loop-e.invariant.1 } in
    let read : EdgeRead c.args.m.now c.args.g.now c.args.n c.body-cs.result.now c.body-eb.result.now c.args.firsts.now c.node_field-edges.result c.loop-e.e c.loop-e.p
    c.edge_at-edge.result.at c.edge_at-edge.result.first c.edge_at-edge.result.branches = record { here = here; commands-in = c.body-cs.ensures; same = c.edge_at-edge.ensures.0; starting = c.edge_at-edge.ensures.1; branching = c.edge_at-edge.ensures.2 } in
    let b = edge-breaks c.requires.node_of read c.requires.firsts_of _ c.requires.state_settled held c.first_bad_branch-b.ensures c.if-b-edge.true in
    let k = scan-found c.loop-e.invariant.0 c.loop-e-test.true b refl ∙ ap (first_bad _) c.node_field-edges.ensures.0 in record { broken = sym (all-fails c.loop-e.invariant.0 c.loop-e-test.true b refl ∙ ap (all _) c.node_field-edges.ensures.0); by-record = branch-found c.requires.node_of read c.requires.firsts_of _ c.requires.state_settled held c.first_bad_branch-b.ensures c.if-b-edge.true k refl; by-variable = second-found c.requires.node_of read c.requires.firsts_of _ c.requires.state_settled held c.first_bad_branch-b.ensures c.if-b-edge.true k refl c.u16_at-s.ensures.0 c.apart_by.ensures; to = scan-followed c.loop-e.invariant.0 c.node_field-edges.ensures.0 c.loop-e.invariant.1 }

pub overflow_add-p-in-loop-e-2 : goal.overflow_add-p-in-loop-e-2
overflow_add-p-in-loop-e-2 c =
    let cursor : c.loop-e.p ≤ most_bytes = cursor-small c.requires.node_of c.loop-e.e c.node_field-edges.ensures.0 c.loop-e.invariant.0.within c.loop-e.invariant.1 in
    omega (arith, cursor, c.edge_at-edge.ensures.3)

pub loop-e-preserved : goal.loop-e-preserved
loop-e-preserved c =
    let held : Held c.args.m.now c.args.g.now c.variable_count-vars.result c.body-bs.result.now c.body-nb.result.now = record { variables = c.variable_count-vars.ensures.0; records-in = c.body-bs.ensures; nodes-in = c.body-nb.ensures } in
    let here : EdgeHere c.args.m.now c.args.g.now c.args.n c.body-eb.result.now c.node_field-edges.result c.loop-e.e c.loop-e.p = record { edges-in = c.body-eb.ensures; count = c.node_field-edges.ensures.0; within = c.loop-e-test.true; stands = c.loop-e.invariant.1 } in
    let read : EdgeRead c.args.m.now c.args.g.now c.args.n c.body-cs.result.now c.body-eb.result.now c.args.firsts.now c.node_field-edges.result c.loop-e.e c.loop-e.p
    c.edge_at-edge.result.at c.edge_at-edge.result.first c.edge_at-edge.result.branches = record { here = here; commands-in = c.body-cs.ensures; same = c.edge_at-edge.ensures.0; starting = c.edge_at-edge.ensures.1; branching = c.edge_at-edge.ensures.2 } in
    let a = edge-passes c.requires.node_of read c.requires.firsts_of _ c.requires.state_settled held c.first_bad_branch-b.ensures c.if-b-edge.false in
    (scan-next c.loop-e.invariant.0 c.loop-e-test.true a refl, next-stands c.requires.node_of read)

-- the cursor is past the last edge
pub returns : goal.returns
returns c =
    let q : c.loop-e.e ≡ c.node_field-edges.result = omega (arith, c.loop-e.invariant.0.within) in
    (sym (all_pass c.loop-e.invariant.0 (omega arith) ∙ ap (all _) c.node_field-edges.ensures.0), place-over _ _ _ (c.loop-e.invariant.1 ∙ ap (edge_at _ _ _) (q ∙ c.node_field-edges.ensures.0)))

pub overflow_add-p : goal.overflow_add-p
overflow_add-p c =
    let cursor : c.loop-e.p ≤ most_bytes = cursor-small c.requires.node_of c.loop-e.e c.node_field-edges.ensures.0 c.loop-e.invariant.0.within c.loop-e.invariant.1 in
    let successor-near : c.loop-e.p + 2 + 2 * c.first_bad_branch-b.result < 2 ^ 40 = omega (arith, cursor, c.if-b-edge.true, c.edge_at-edge.ensures.3) in
    omega (arith, successor-near)

pub overflow_mul-b : goal.overflow_mul-b
overflow_mul-b c =
    let cursor : c.loop-e.p ≤ most_bytes = cursor-small c.requires.node_of c.loop-e.e c.node_field-edges.ensures.0 c.loop-e.invariant.0.within c.loop-e.invariant.1 in
    let successor-near : c.loop-e.p + 2 + 2 * c.first_bad_branch-b.result < 2 ^ 40 = omega (arith, cursor, c.if-b-edge.true, c.edge_at-edge.ensures.3) in
    omega (arith, successor-near)

pub overflow_add-p-then-b-edge : goal.overflow_add-p-then-b-edge
overflow_add-p-then-b-edge c =
    let cursor : c.loop-e.p ≤ most_bytes = cursor-small c.requires.node_of c.loop-e.e c.node_field-edges.ensures.0 c.loop-e.invariant.0.within c.loop-e.invariant.1 in
    let successor-near : c.loop-e.p + 2 + 2 * c.first_bad_branch-b.result < 2 ^ 40 = omega (arith, cursor, c.if-b-edge.true, c.edge_at-edge.ensures.3) in
    omega (arith, successor-near)

pub u16_at-s-requires : goal.u16_at-s-requires
u16_at-s-requires c =
    let cursor : c.loop-e.p ≤ most_bytes = cursor-small c.requires.node_of c.loop-e.e c.node_field-edges.ensures.0 c.loop-e.invariant.0.within c.loop-e.invariant.1 in
    let successor-near : c.loop-e.p + 2 + 2 * c.first_bad_branch-b.result < 2 ^ 40 = omega (arith, cursor, c.if-b-edge.true, c.edge_at-edge.ensures.3) in
    omega (arith, successor-near)
