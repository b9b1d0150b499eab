use mathlib.Core.Path.{ap, ◌∙◌}
use Prim.Native.Nat.{◌<◌, ◌^◌}
use lib.Signed.{mag}
use mir.Syntax.{w16, w64}
use Rattle.folder.specs.Fields.{signed16}
use Rattle.folder.proofs.Signed.{cast_fits, cast-back}
use Rattle.slots.proofs.Fields.{signed-small}
use Rattle.slots.proofs.value_in.Goals as goal

pub overflow_cast-result : goal.overflow_cast-result
overflow_cast-result c =
    let small : mag c.signed_of.result < 2 ^ 15 = rw c.signed_of.ensures (signed-small _ c.field.ensures.1) in
    cast_fits w64 w16 tt tt c.signed_of.result small

pub returns : goal.returns
returns c =
    let small : mag c.signed_of.result < 2 ^ 15 = rw c.signed_of.ensures (signed-small _ c.field.ensures.1) in
    cast-back w64 w16 tt tt c.signed_of.result small ∙ c.signed_of.ensures ∙ ap signed16 c.field.ensures.0
