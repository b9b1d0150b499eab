use native.Mathlib.Omega.{arith}
use mathlib.Core.List.{◌++◌}
use Rattle.text.specs.Text.{ascii, decimal}
use Rattle.text.proofs.TextLaws.{put_both}
use Rattle.report.proofs.put_within.Goals as goal

pub returns : goal.returns
unfolding ascii
returns c =
    let w = put_both c.args.out.now c.args.at 7 (ascii "within ") (decimal c.args.h ++ ascii " ") (omega (arith, c.requires.0)) c.put-k.ensures.0 c.put-k.ensures.1 (omega (arith, c.put-k.ensures.0)) c.put_count-j.ensures.0 c.put_count-j.ensures.1 in
    let u = put_both c.args.out.now c.args.at 28 (ascii "within " ++ (decimal c.args.h ++ ascii " ")) (decimal c.args.f ++ ascii "\n") (omega (arith, c.requires.0)) w.0 w.1 (omega (arith, c.put-k.ensures.0, c.put_count-j.ensures.2)) c.put_count.ensures.0 c.put_count.ensures.1 in
    (u.0, u.1, omega (arith, c.put-k.ensures.0, c.put_count-j.ensures.2, c.put_count.ensures.2))
