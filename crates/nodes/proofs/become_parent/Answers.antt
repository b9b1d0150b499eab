use mathlib.Core.Path.{ap, ◌∙◌}
use mathlib.Core.List.{List}
use Prim.Native.Nat.{ℕ}
use Rattle.held.specs.Held.{child_field, put_in}
use Rattle.nodes.proofs.become_parent.Goals as goal

pub returns : goal.returns
returns c = c.put_field-2.ensures ∙ ap (λ (l : List ℕ). put_in c.args.vars l c.args.n child_field c.args.k) c.put_field.ensures
