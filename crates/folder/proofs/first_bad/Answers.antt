use Rattle.std.proofs.Common.{sym, ◌∙◌, rules}
use Rattle.folder.proofs.ScanLaws.{scan-none, scan-more, scan-stop}
use Rattle.folder.proofs.first_bad.Goals as goal

pub loop-i-init : goal.loop-i-init
loop-i-init g c = λ good h. scan-none good

pub returns-then-not-ok : goal.returns-then-not-ok
returns-then-not-ok g c = λ good h. sym (scan-stop good c.loop-i.i c.args.n (c.loop-i.invariant good h) (sym (h c.loop-i.i c.ok.result c.loop-i-test.true c.ok.ensures) ∙ search rules) c.loop-i-test.true)

pub loop-i-preserved : goal.loop-i-preserved
loop-i-preserved g c = λ good h. scan-more good c.loop-i.i (c.loop-i.invariant good h) (sym (h c.loop-i.i c.ok.result c.loop-i-test.true c.ok.ensures) ∙ search rules)
