use mathlib.Core.Path.{◌∙◌, ap, sym}
use Prim.Native.Nat.{ℕ}
use native.Mathlib.Omega.{arith}
use Rattle.folder.specs.Tab.{tab}
use Rattle.slots.specs.Slots.{no_node, slots_after}
use Rattle.slots.specs.Nodes.{label_in}
use Rattle.slots.proofs.RowLaws.{enter-start, enter-next, enter-over}
use Rattle.slots.proofs.enter_all.Goals as goal

pub loop-i-init : goal.loop-i-init
loop-i-init c =
    enter-start _ _ _ _ (c.clear.ensures ∙ ap (λ (n : ℕ). tab n (λ p. no_node)) (sym c.clear.auto.row))

pub overflow_cast-i : goal.overflow_cast-i
overflow_cast-i c = omega (arith, c.requires.2)

pub enter-requires : goal.enter-requires
enter-requires c = (c.requires.0, c.requires.3, omega (arith, c.requires.1, c.loop-i.invariant.long, c.clear.auto.row))

pub loop-i-preserved : goal.loop-i-preserved
loop-i-preserved c = enter-next _ _ _ _ c.loop-i.invariant c.loop-i-test.true (omega (arith, c.requires.1, c.clear.auto.row)) c.requires.2 c.enter.ensures c.enter.auto.row

pub shape_of-row : goal.shape_of-row
shape_of-row c = c.loop-i.invariant.long ∙ c.clear.auto.row

pub returns : goal.returns
returns c = enter-over _ _ _ _ c.loop-i.invariant c.loop-i-test.false ∙ ap (λ (k : ℕ). slots_after (label_in c.args.vars c.args.nb.now) k c.args.n) c.clear.auto.row
