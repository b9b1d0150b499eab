use mathlib.Core.Path.{refl}
use borrow.Author.Tests.{eq-eqb, ne_eqb}
use Rattle.laguipy_c.proofs.row_of.Goals as goal

pub returns-then-h-eq0 : goal.returns-then-h-eq0
returns-then-h-eq0 c = rw (eq-eqb _ _ c.if-h-eq0.true) refl

pub returns-else-h-eq0 : goal.returns-else-h-eq0
returns-else-h-eq0 c = rw (ne_eqb _ _ c.if-h-eq0.false) refl
