use mathlib.Core.Path.{ap, ◌∙◌}
use mathlib.Core.List.{List}
use Prim.Native.Nat.{ℕ, ◌+◌, ◌/◌}
use Rattle.folder.specs.Fields.{field_limit}
use Rattle.put.specs.Put.{put2, put4}
use Rattle.put.proofs.put_word.Goals as goal

pub returns : goal.returns
unfolding put4
returns c =
    c.put_short-2.ensures ∙ ap (λ (l : List ℕ). put2 l (c.args.k + 2) (c.args.u / field_limit)) c.put_short.ensures
