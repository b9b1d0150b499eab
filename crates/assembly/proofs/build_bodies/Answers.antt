use native.Mathlib.Omega.{arith}
use Rattle.assembly.proofs.Bodies.{edges_fit, bodied}
use Rattle.assembly.proofs.build_bodies.Goals as goal

pub finish-requires : goal.finish-requires
finish-requires c = record { held = c.build-size.ensures.grown.held; nodes_in_bounds = edges_fit c.args.m.now c.args.longest c.build-size.ensures.nb_after c.build-size.ensures.grown; nodes_in_bounds_2 = omega (arith, c.build-size.ensures.grown.held.kept.few, c.begins-1.given, c.requires.most_nodes_in_bounds); walked = c.build-size.ensures.grown.walked }

pub returns : goal.returns
returns c =
    bodied c.args.m.now c.args.longest c.build-size.ensures.nb_after c.build-size.ensures.grown c.build-size.ensures.stays c.finish.ensures
