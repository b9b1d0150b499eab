use native.Mathlib.Omega.{arith}
use mathlib.Core.List.{◌++◌}
use Rattle.text.proofs.TextLaws.{put_both}
use Rattle.report.specs.Report.{within_line}
use Rattle.report.proofs.put_figures.Goals as goal

pub returns : goal.returns
returns c =
    let l0 = within_line 0 c.args.f0 in
    let l1 = within_line 1 c.args.f1 in
    let l2 = within_line 2 c.args.f2 in
    let l3 = within_line 3 c.args.f3 in
    let w1 = put_both c.args.out.now c.args.at 49 l0 l1 (omega (arith, c.requires.0)) c.put_within-a.ensures.0 c.put_within-a.ensures.1 c.put_within-a.ensures.2 c.put_within-b.ensures.0 c.put_within-b.ensures.1 in
    let w2 = put_both c.args.out.now c.args.at 98 (l0 ++ l1) l2 (omega (arith, c.requires.0)) w1.0 w1.1 (omega (arith, c.put_within-a.ensures.2, c.put_within-b.ensures.2)) c.put_within-c.ensures.0 c.put_within-c.ensures.1 in
    let w3 = put_both c.args.out.now c.args.at 147 (l0 ++ l1 ++ l2) l3 (omega (arith, c.requires.0)) w2.0 w2.1 (omega (arith, c.put_within-a.ensures.2, c.put_within-b.ensures.2, c.put_within-c.ensures.2)) c.put_within.ensures.0 c.put_within.ensures.1 in
    (w3.0, w3.1, omega (arith, c.put_within-a.ensures.2, c.put_within-b.ensures.2, c.put_within-c.ensures.2, c.put_within.ensures.2))
