use mathlib.Core.Path.{ap, ◌∙◌}
use Rattle.folder.specs.Contents.{count_of}
use Rattle.model.proofs.Limits.{limits}
use native.Mathlib.Omega.{arith}
use Rattle.expand.proofs.command_count.Goals as goal

pub returns : goal.returns
returns c =
    let e = c.count_of.ensures ∙ ap (count_of 4) c.body.ensures in
    (e, omega (arith, e, (limits c.requires.folder).commands))
