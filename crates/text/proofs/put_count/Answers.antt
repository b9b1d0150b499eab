use native.Mathlib.Omega.{arith}
use Rattle.text.specs.Text.{decimal}
use Rattle.text.proofs.TextLaws.{put_both}
use Rattle.text.proofs.put_count.Goals as goal

pub returns : goal.returns
returns c =
    put_both c.args.out.now c.args.at 20 (decimal c.args.n) c.args.word.now (omega (arith, c.requires.0)) c.put_decimal-k.ensures.0 c.put_decimal-k.ensures.1 c.put_decimal-k.ensures.2 c.put.ensures.0 c.put.ensures.1
