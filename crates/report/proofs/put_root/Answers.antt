use native.Mathlib.Omega.{arith}
use mathlib.Core.List.{◌++◌}
use Rattle.text.specs.Text.{ascii, decimal}
use Rattle.text.proofs.TextLaws.{put_both}
use Rattle.report.proofs.put_root.Goals as goal

pub returns : goal.returns
unfolding ascii
returns c =
    let w = put_both c.args.out.now c.args.at 5 (ascii "root ") (decimal c.args.root ++ ascii "\n") (omega (arith, c.requires.0)) c.put-k.ensures.0 c.put-k.ensures.1 (omega (arith, c.put-k.ensures.0)) c.put_count.ensures.0 c.put_count.ensures.1 in
    (w.0, w.1, omega (arith, c.put-k.ensures.0, c.put_count.ensures.2))
