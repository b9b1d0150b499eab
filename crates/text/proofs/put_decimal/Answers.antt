use native.Mathlib.Omega.{arith}
use Rattle.text.proofs.TextLaws.{digits-few}
use Rattle.text.proofs.put_decimal.Goals as goal

pub returns : goal.returns
returns c = (c.put_digits.ensures.0, c.put_digits.ensures.1, omega (arith, c.put_digits.ensures.0, digits-few 20 c.args.n))
