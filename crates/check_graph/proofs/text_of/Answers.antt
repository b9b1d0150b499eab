use Rattle.std.proofs.Common.{arith}
use Rattle.text.specs.Text.{ascii}
use Rattle.report.specs.Report.{report_text}
use Rattle.check_graph.specs.Printed.{file_text}
use Rattle.check_graph.proofs.PrintedLaws.{failed-line, long-line}
use Rattle.check_graph.proofs.text_of.Goals as goal

pub returns-in-None : goal.returns-in-None
unfolding ascii
returns-in-None c =
    failed-line c.args.m c.args.model.now (λ a. file_text c.args.g c.args.graph.now (report_text a)) c.in-None.is (omega arith) c.put.ensures.0 c.put.ensures.1

pub returns-else-n-le-MOST : goal.returns-else-n-le-MOST
unfolding ascii
returns-else-n-le-MOST c =
    let p = c.put-else-n-le-MOST.ensures in
    long-line c.args.m c.args.model.now (λ a. file_text c.args.g c.args.graph.now (report_text a)) c.in-Some.n c.in-Some.is (omega (arith, c.if-n-le-MOST.false)) (omega arith) p.0 p.1
