use mathlib.Core.Path.{ap, ◌∙◌}
use mathlib.Core.List.{List}
use Prim.Native.Nat.{ℕ}
use Rattle.held.specs.Held.{cover_field, put_in}
use Rattle.nodes.proofs.become_kind.Goals as goal

pub returns : goal.returns
returns c = c.put_field-2.ensures ∙ ap (λ (l : List ℕ). put_in c.args.vars l c.args.n cover_field c.args.cover) c.put_field.ensures
