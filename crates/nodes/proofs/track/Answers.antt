use Prim.Native.Nat.{ℕ}
use mathlib.Core.Path.{ap, ◌∙◌}
use native.Mathlib.Omega.{arith}
use Rattle.expressions.specs.Mentions.{union}
use Rattle.folder.specs.Contents.{field}
use Rattle.graph.specs.Simulation.{node_size}
use Rattle.held.specs.Held.{tracked_field, put_in}
use Rattle.nodes.proofs.NodeLaws.{bit_is}
use Rattle.nodes.proofs.track.Goals as goal

pub track_all-requires : goal.track_all-requires
track_all-requires c = record {
  vars_le_most_variables = (c.requires.vars_le_most_variables.0, c.requires.vars_le_most_variables.1, (bit_is c.args.v (omega (arith, c.requires.vars_le_most_variables))).1);
  whole = c.requires.whole;
}

pub returns : goal.returns
returns c =
    c.track_all.ensures ∙ ap (λ (t : ℕ). put_in c.args.vars c.args.nb.now c.args.n tracked_field (union (field (node_size c.args.vars) c.args.nb.now c.args.n tracked_field) t)) (bit_is c.args.v (omega (arith, c.requires.vars_le_most_variables))).0
