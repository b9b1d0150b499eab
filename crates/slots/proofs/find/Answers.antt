use Prim.Native.Nat.{ℕ}
use mathlib.Core.Path.{◌∙◌, ap}
use lib.ListN.{get_or}
use Rattle.slots.specs.Slots.{no_node}
use Rattle.folder.proofs.TabLaws.{get_or-within}
use Rattle.slots.proofs.find.Goals as goal

pub returns : goal.returns
returns c =
    get_or-within c.args.row.now c.probe.result 0 no_node c.probe.ensures.1 ∙ ap (λ (q : ℕ). get_or c.args.row.now q no_node) c.probe.ensures.0
