use Prim.Native.Nat.{ℕ}
use mathlib.Core.Path.{ap, ◌∙◌}
use Rattle.expressions.specs.Mentions.{union}
use Rattle.folder.specs.Contents.{field}
use Rattle.graph.specs.Simulation.{node_size}
use Rattle.held.specs.Held.{cover_field, tracked_field, put_in}
use Rattle.nodes.proofs.adopt.Goals as goal

pub returns : goal.returns
returns c =
    c.track_all.ensures
    ∙ ap (λ (t : ℕ). put_in c.args.vars c.args.nb.now c.args.n tracked_field (union (field (node_size c.args.vars) c.args.nb.now c.args.n tracked_field) t))
    (c.field-t.ensures.0 ∙ (λ i. field (c.node_size-size.ensures.0 i) c.args.nb.now ((c.field-c.ensures.0 ∙ ap (λ (w : ℕ). field w c.args.nb.now c.args.n cover_field) c.node_size-size.ensures.0) i) tracked_field))
