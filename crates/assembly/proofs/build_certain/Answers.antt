use Prim.Native.Nat.{◌+◌, ◌*◌, ◌≤◌}
use mathlib.Core.Path.{◌≡◌, ap, ◌∙◌}
use native.Mathlib.Omega.{arith}
use Rattle.model.specs.Layout.{variable_count}
use Rattle.graph.specs.Limits.{least_bytes, most_bytes}
use Rattle.graph.specs.Simulation.{node_size}
use Rattle.assembly.proofs.Certain.{room-lent, nodes-within, len-small, slice-long, certain-is}
use Rattle.assembly.proofs.build_certain.Goals as goal

pub build_bodies-size-requires : goal.build_bodies-size-requires
build_bodies-size-requires c = record { valid = c.requires.valid; most_nodes_in_bounds = c.requires.most_nodes_in_bounds; m_bound = room-lent c.args.m.now c.requires.valid c.args.out.now c.requires.m_in_bounds c.min-longest.ensures }

pub overflow_mul-nodes : goal.overflow_mul-nodes
overflow_mul-nodes c =
    let size_is : c.node_size.result ≡ node_size (variable_count c.args.m.now) = c.node_size.ensures.0 ∙ ap node_size c.variable_count.ensures.0 in
    let within : least_bytes + c.node_size.result * c.build_bodies-size.result.nodes ≤ c.build_bodies-size.result.len = nodes-within c.args.m.now c.requires.valid c.args.out.now c.requires.m_in_bounds c.min-longest.ensures c.build_bodies-size.ensures size_is in
    let small : c.build_bodies-size.result.len ≤ most_bytes = len-small c.args.m.now c.requires.valid c.args.out.now c.requires.m_in_bounds c.min-longest.ensures c.build_bodies-size.ensures size_is in
    omega (arith, within, small)

pub overflow_sub-size : goal.overflow_sub-size
overflow_sub-size c =
    let size_is : c.node_size.result ≡ node_size (variable_count c.args.m.now) = c.node_size.ensures.0 ∙ ap node_size c.variable_count.ensures.0 in
    let within : least_bytes + c.node_size.result * c.build_bodies-size.result.nodes ≤ c.build_bodies-size.result.len = nodes-within c.args.m.now c.requires.valid c.args.out.now c.requires.m_in_bounds c.min-longest.ensures c.build_bodies-size.ensures size_is in
    omega (arith, within)

pub overflow_sub-size-2 : goal.overflow_sub-size-2
overflow_sub-size-2 c =
    let size_is : c.node_size.result ≡ node_size (variable_count c.args.m.now) = c.node_size.ensures.0 ∙ ap node_size c.variable_count.ensures.0 in
    let within : least_bytes + c.node_size.result * c.build_bodies-size.result.nodes ≤ c.build_bodies-size.result.len = nodes-within c.args.m.now c.requires.valid c.args.out.now c.requires.m_in_bounds c.min-longest.ensures c.build_bodies-size.ensures size_is in
    omega (arith, within)

pub put_contents-requires : goal.put_contents-requires
put_contents-requires c =
    let size_is : c.node_size.result ≡ node_size (variable_count c.args.m.now) = c.node_size.ensures.0 ∙ ap node_size c.variable_count.ensures.0 in
    let within : least_bytes + c.node_size.result * c.build_bodies-size.result.nodes ≤ c.build_bodies-size.result.len = nodes-within c.args.m.now c.requires.valid c.args.out.now c.requires.m_in_bounds c.min-longest.ensures c.build_bodies-size.ensures size_is in
    let small : c.build_bodies-size.result.len ≤ most_bytes = len-small c.args.m.now c.requires.valid c.args.out.now c.requires.m_in_bounds c.min-longest.ensures c.build_bodies-size.ensures size_is in (
      slice-long c.args.m.now c.requires.valid c.args.out.now c.requires.m_in_bounds c.min-longest.ensures c.build_bodies-size.ensures size_is,
      omega (arith, within, small),
      omega (arith, within, small),
    )

pub returns : goal.returns
returns c = let size_is : c.node_size.result ≡ node_size (variable_count c.args.m.now) = c.node_size.ensures.0 ∙ ap node_size c.variable_count.ensures.0 in
    let v = certain-is c.args.m.now c.requires.valid c.args.out.now c.requires.m_in_bounds c.min-longest.ensures c.build_bodies-size.ensures size_is c.put_contents.ensures in
    record { nodes_value = v.0; len_value = v.1.0; out_after = v.1.1.0; walked = v.1.1.1 }
