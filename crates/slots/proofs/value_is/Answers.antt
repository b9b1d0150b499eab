use mathlib.Core.Path.{ap, ◌∙◌}
use Prim.Native.Nat.{ℕ}
use lib.Dec.{eqb}
use lib.IntN.{pos}
use lib.ListN.{get_or}
use Rattle.folder.specs.Fields.{signed16}
use Rattle.whole.specs.Order.{eq_z}
use Rattle.hash.specs.Hash.{bits}
use Rattle.folder.proofs.Signed.{back16}
use Rattle.slots.proofs.Fields.{field_is}
use Rattle.slots.proofs.value_is.Goals as goal

pub returns : goal.returns
returns c =
    ap (λ (k : ℕ). eqb c.field.result k) (c.bits_of.ensures.0 ∙ ap bits (back16 c.bits_of-arg-1.given)) ∙ field_is c.field.result (get_or c.args.x.now c.args.v (pos 0)) c.field.ensures.1 (record { sfits = c.bits_of-arg-1.given }) ∙ ap (λ (u : ℕ). eq_z (signed16 u) (get_or c.args.x.now c.args.v (pos 0))) c.field.ensures.0
