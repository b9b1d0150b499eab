use native.Mathlib.Omega.{arith}
use Rattle.text.specs.Text.{ascii, decimal}
use Rattle.text.proofs.TextLaws.{holds-none, holds_more, digits-few}
use Rattle.report.proofs.put_refusal.Goals as goal

pub returns : goal.returns
unfolding ascii
returns c =
    let h1 = holds_more (holds-none c.args.out.now) (ascii "refused ") (omega arith) c.put-a.ensures.0 c.put-a.ensures.1 in
    let h2 = holds_more h1 (decimal c.args.f.number) (omega (arith, digits-few 20 c.args.f.number)) c.put_decimal-b.ensures.0 c.put_decimal-b.ensures.1 in
    let h3 = holds_more h2 (ascii " ") (omega arith) c.put-c.ensures.0 c.put-c.ensures.1 in
    let h4 = holds_more h3 (decimal c.args.f.place) (omega (arith, digits-few 20 c.args.f.place)) c.put_decimal-d.ensures.0 c.put_decimal-d.ensures.1 in
    holds_more h4 (ascii "\n") (omega arith) c.put.ensures.0 c.put.ensures.1
