use Prim.Native.Nat.{ℕ, ◌+◌, max}
use mathlib.Core.Path.{refl, ap, ◌∙◌}
use mathlib.Core.List.{List}
use lib.ListN.{set}
use Rattle.held.specs.Held.{state_field, put_in}
use Rattle.making.proofs.make_cover.Goals as goal

pub returns : goal.returns
returns c = record { value = c.grown_work.ensures; nb_after = c.put_field.ensures ∙ ap (λ (l : List ℕ). put_in c.args.vars l c.args.n (state_field + c.args.vars) c.args.c) c.become_kind.ensures; marks_after = refl; reaches_after = ap (set c.args.reaches.now c.args.c) (c.larger.ensures ∙ ap (λ (x : ℕ). max x (c.args.n + 1)) c.from.ensures) }
