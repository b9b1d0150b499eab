use mathlib.Core.Path.{ap, ◌∙◌}
use mathlib.Core.List.{List}
use Prim.Native.Nat.{ℕ, ◌+◌}
use Rattle.graph.specs.Limits.{least_bytes}
use Rattle.put.specs.Put.{put4}
use Rattle.assembly.proofs.Contents.{contents-put}
use Rattle.assembly.proofs.put_contents.Goals as goal

pub returns : goal.returns
returns c =
    c.put_word-4.ensures
    ∙ ap (λ (s : List ℕ). put4 s 12 c.args.b) (c.put_word-3.ensures
    ∙ ap (λ (s : List ℕ). put4 s 8 (least_bytes + c.args.a)) (c.put_word-2.ensures
    ∙ ap (λ (s : List ℕ). put4 s 4 c.args.a) c.put_word.ensures))
    ∙ contents-put c.args.out.now c.args.a c.args.b c.requires.0 c.requires.1 c.requires.2
