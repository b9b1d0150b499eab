use Prim.Native.Nat.{ℕ}
use mathlib.Core.Path.{ap, ◌∙◌}
use Rattle.folder.specs.Contents.{count_of}
use Rattle.labels.proofs.RuleLaws.{c3-is}
use Rattle.labels.proofs.c3.Goals as goal

pub returns : goal.returns
returns c =
    c3-is (record { variables = c.nodes_of-nodes.ensures.0; nodes = c.nodes_of-nodes.ensures.1 }) _
    c.field.ensures.0 c.field-k.ensures.0 c.field-2.ensures.0 (c.count_of-count.ensures ∙ ap (λ (z : ℕ). count_of z c.nodes_of-nodes.result.body.now) c.node_size.ensures.0)
