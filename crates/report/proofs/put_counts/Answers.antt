use Prim.Native.Nat.{◌+◌}
use mathlib.Core.List.{◌++◌}
use native.Mathlib.Omega.{arith}
use Rattle.text.specs.Text.{ascii, decimal}
use Rattle.text.proofs.TextLaws.{holds-none, holds_more}
use Rattle.report.proofs.put_counts.Goals as goal

pub put_count-requires : goal.put_count-requires
put_count-requires c = omega (
  arith,
  c.requires.0,
  c.put-a.ensures.0,
  c.put_count-b.ensures.2,
  c.put_count-c.ensures.2,
  c.put_count-d.ensures.2,
  c.put_count-e.ensures.2,
)

pub returns : goal.returns
unfolding ascii
returns c =
    let h1 = holds_more (holds-none c.args.out.now) (ascii "accepted ") (omega (arith, c.requires.0)) c.put-a.ensures.0 c.put-a.ensures.1 in
    let h2 = holds_more h1 (decimal (c.args.s.expanded + c.args.s.covered + c.args.s.target + c.args.s.waiting) ++ ascii " nodes ") (omega (arith, c.put_count-b.ensures.0, c.put_count-b.ensures.2, c.put-a.ensures.0, c.requires.0)) c.put_count-b.ensures.0 c.put_count-b.ensures.1 in
    let h3 = holds_more h2 (decimal c.args.s.expanded ++ ascii " expanded ") (omega (arith, c.put_count-c.ensures.0, c.put_count-c.ensures.2, c.put_count-b.ensures.2, c.put-a.ensures.0, c.requires.0)) c.put_count-c.ensures.0 c.put_count-c.ensures.1 in
    let h4 = holds_more h3 (decimal c.args.s.covered ++ ascii " covered ") (omega (arith, c.put_count-d.ensures.0, c.put_count-d.ensures.2, c.put_count-c.ensures.2, c.put_count-b.ensures.2, c.put-a.ensures.0, c.requires.0)) c.put_count-d.ensures.0 c.put_count-d.ensures.1 in
    let h5 = holds_more h4 (decimal c.args.s.target ++ ascii " target ") (omega (arith, c.put_count-e.ensures.0, c.put_count-e.ensures.2, c.put_count-d.ensures.2, c.put_count-c.ensures.2, c.put_count-b.ensures.2, c.put-a.ensures.0, c.requires.0)) c.put_count-e.ensures.0 c.put_count-e.ensures.1 in (
      holds_more h5 (decimal c.args.s.waiting ++ ascii " waiting\n") (omega (arith, c.put_count.ensures.0, c.put_count.ensures.2, c.put_count-e.ensures.2, c.put_count-d.ensures.2, c.put_count-c.ensures.2, c.put_count-b.ensures.2, c.put-a.ensures.0, c.requires.0)) c.put_count.ensures.0 c.put_count.ensures.1,
      omega (arith, c.put_count.ensures.2, c.put_count-e.ensures.2, c.put_count-d.ensures.2, c.put_count-c.ensures.2, c.put_count-b.ensures.2, c.put-a.ensures.0),
    )
