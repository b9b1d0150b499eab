use Rattle.std.proofs.Common.{arith}
use Rattle.text.specs.Text.{ascii}
use Rattle.report.specs.Report.{report_text}
use Rattle.check_graph.proofs.PrintedLaws.{failed-line, long-line}
use Rattle.check_graph.proofs.graph_text.Goals as goal

pub returns-in-None : goal.returns-in-None
unfolding ascii
returns-in-None c =
    failed-line c.args.g c.args.graph.now (report_text c.args.model.now) c.in-None.is (omega arith) c.put.ensures.0 c.put.ensures.1

pub returns-else-k-le-MOST : goal.returns-else-k-le-MOST
unfolding ascii
returns-else-k-le-MOST c =
    let p = c.put-else-k-le-MOST.ensures in
    long-line c.args.g c.args.graph.now (report_text c.args.model.now) c.in-Some.k c.in-Some.is (omega (arith, c.if-k-le-MOST.false)) (omega arith) p.0 p.1
