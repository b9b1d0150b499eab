use lib.ListN.{drop}
use native.Mathlib.Omega.{arith}
use Rattle.model.specs.Model.{model_of}
use Rattle.graph.specs.Limits.{least_bytes, units}
use Rattle.assembly.proofs.Filled.{built_in, front-within, front_long, front-valid, front-few, front-starts, nodes-few, bodies-there, nodes-there, filled_is}
use Rattle.assembly.proofs.build_fill.Goals as goal

pub slice_bounds-lower-end : goal.slice_bounds-lower-end
slice_bounds-lower-end c =
    front-within c.args.m.now c.requires.valid c.args.out.now c.requires.build_right.room c.build_certain-size.ensures.nodes_value c.build_certain-size.ensures.len_value c.build_certain-size.ensures.out_after

pub slice_bounds-lower-end-2 : goal.slice_bounds-lower-end-2
slice_bounds-lower-end-2 c =
    front_long c.args.m.now c.requires.valid c.args.out.now c.requires.build_right.room c.build_certain-size.ensures.nodes_value c.build_certain-size.ensures.len_value c.build_certain-size.ensures.out_after

pub lower-requires : goal.lower-requires
lower-requires c = record { valid = front-valid c.args.m.now c.requires.valid c.args.out.now c.requires.build_right.room c.build_certain-size.ensures.nodes_value c.build_certain-size.ensures.len_value c.build_certain-size.ensures.out_after; starts = front-starts c.args.m.now c.requires.valid c.args.out.now c.requires.build_right.room c.build_certain-size.ensures.nodes_value c.build_certain-size.ensures.len_value c.build_certain-size.ensures.out_after (omega (arith, c.begins-2-1.given)) c.build_certain-size.ensures.walked; g_in_bounds = front-few c.args.m.now c.requires.valid c.args.out.now c.requires.build_right.room c.build_certain-size.ensures.nodes_value c.build_certain-size.ensures.len_value c.build_certain-size.ensures.out_after }

pub put_values-requires : goal.put_values-requires
put_values-requires c =
    let few = nodes-few c.args.m.now c.requires.valid c.args.out.now c.requires.build_right.room c.build_certain-size.ensures.nodes_value c.build_certain-size.ensures.len_value c.build_certain-size.ensures.out_after in
    (c.variable_count.ensures.1, few, omega (arith, few, c.lower.auto.row), nodes-there c.args.m.now c.requires.valid c.args.out.now c.requires.build_right.room c.build_certain-size.ensures.nodes_value c.build_certain-size.ensures.len_value c.build_certain-size.ensures.out_after c.variable_count.ensures.0)

pub returns : goal.returns
returns c =
    let v = filled_is c.args.m.now c.requires.valid c.args.out.now c.requires.build_right.room c.build_certain-size.ensures.nodes_value c.build_certain-size.ensures.len_value c.build_certain-size.ensures.out_after c.args.rounds _
    c.lower.ensures
    (c.put_values.ensures (model_of c.args.m.now) (built_in c.args.m.now c.args.out.now) (λ _. units) (drop least_bytes c.args.out.now) c.variable_count.ensures.0 c.build_certain-size.ensures.nodes_value
    (bodies-there c.args.m.now c.requires.valid c.args.out.now c.requires.build_right.room c.build_certain-size.ensures.nodes_value c.build_certain-size.ensures.len_value c.build_certain-size.ensures.out_after)) in
    record { value = v.0; out_after = v.1 }

pub build_certain-size-requires : goal.build_certain-size-requires
build_certain-size-requires c = record { valid = c.requires.valid; most_nodes_in_bounds = omega arith; m_in_bounds = c.requires.build_right.room }
