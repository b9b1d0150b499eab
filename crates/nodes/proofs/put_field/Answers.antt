use Prim.Native.Nat.{ℕ, ◌+◌, ◌*◌}
use mathlib.Core.Path.{ap, ◌∙◌}
use native.Mathlib.Omega.{arith}
use Rattle.folder.proofs.ContentsLaws.{product_small}
use Rattle.put.specs.Put.{put2}
use Rattle.held.specs.Held.{put_in}
use Rattle.nodes.proofs.NodeLaws.{field_room}
use Rattle.nodes.proofs.put_field.Goals as goal

pub overflow_mul-size : goal.overflow_mul-size
overflow_mul-size c = omega (arith, c.node_size-size.ensures, product_small c.node_size-size.result c.args.n (omega arith) c.requires.vars_le_most_variables.1)

pub overflow_add-size : goal.overflow_add-size
overflow_add-size c = omega (arith, c.node_size-size.ensures, product_small c.node_size-size.result c.args.n (omega arith) c.requires.vars_le_most_variables.1)

pub put_short-requires : goal.put_short-requires
put_short-requires c = (field_room _ _ _ _ c.node_size-size.ensures.0 c.requires.vars_le_most_variables.2 c.requires.whole, c.requires.vars_le_most_variables.3)

pub returns : goal.returns
unfolding put_in
returns c = c.put_short.ensures ∙ ap (λ (k : ℕ). put2 c.args.nb.now (k * c.args.n + 2 * c.args.f) c.args.u) c.node_size-size.ensures.0
