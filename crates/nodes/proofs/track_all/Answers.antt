use Prim.Native.Nat.{ℕ}
use mathlib.Core.Path.{ap, ◌∙◌}
use native.Mathlib.Omega.{arith}
use Rattle.expressions.specs.Mentions.{union}
use Rattle.folder.specs.Contents.{field}
use Rattle.held.specs.Held.{tracked_field, put_in}
use Rattle.held.proofs.FieldLaws.{union-field}
use Rattle.nodes.proofs.track_all.Goals as goal

pub put_field-requires : goal.put_field-requires
unfolding union
put_field-requires c = record {
  vars_le_most_variables = (
    c.requires.vars_le_most_variables.0,
    c.requires.vars_le_most_variables.1,
    omega arith,
    union-field c.field-s.result c.args.t c.field-s.ensures.1 c.requires.vars_le_most_variables.2,
  );
  whole = c.requires.whole;
}

pub returns : goal.returns
unfolding union
returns c =
    c.put_field.ensures
    ∙ ap (put_in c.args.vars c.args.nb.now c.args.n tracked_field) (ap (λ (s : ℕ). union s c.args.t) (c.field-s.ensures.0 ∙ ap (λ (w : ℕ). field w c.args.nb.now c.args.n tracked_field) c.node_size-size.ensures.0))
