use native.Mathlib.Omega.{arith}
use borrow.Author.Tests.{lt-ltb, le-ltb}
use mathlib.Core.Path.{refl}
use Rattle.slots.proofs.next_slot.Goals as goal

pub returns-then-p-slots : goal.returns-then-p-slots
returns-then-p-slots c = (rw (lt-ltb _ _ c.if-p-slots.true) refl, c.if-p-slots.true)

pub returns-else-p-slots : goal.returns-else-p-slots
returns-else-p-slots c = (rw (le-ltb _ _ c.if-p-slots.false) refl, omega arith)
