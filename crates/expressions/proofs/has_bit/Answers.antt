use mathlib.Core.Path.{sym, ◌∙◌}
use Rattle.expressions.proofs.Bits.{no-bit}
use borrow.Author.Tests.{le-ltb}
use Rattle.expressions.proofs.has_bit.Goals as goal

pub returns-else-i-lt64 : goal.returns-else-i-lt64
returns-else-i-lt64 c = le-ltb _ _ c.if-i-lt64.false ∙ sym (no-bit c.args.t 64 c.args.i c.ranges.t.fits c.if-i-lt64.false)
