use native.Mathlib.Omega.{arith}
use Rattle.report.proofs.ReportLaws.{counts-few, none-waiting, all_lines, two-lines}
use Rattle.report.proofs.put_accepted.Goals as goal

pub put_counts-a-requires : goal.put_counts-a-requires
put_counts-a-requires c =
    let f = counts-few c.args.model.now c.args.graph.now c.requires.valid c.requires.s_value.0 in
    (omega (arith, c.requires.s_value.1), f.0, f.1, f.2, f.3)

-- no node waits, so the root's figure for h steps may be asked
pub root_figure-f0-requires : goal.root_figure-f0-requires
root_figure-f0-requires c = record { valid = c.requires.valid; graph_value = (none-waiting c.args.model.now c.args.graph.now c.requires.s_value.0 c.if-s-ne0.false, omega arith) }

pub root_figure-f1-requires : goal.root_figure-f1-requires
root_figure-f1-requires c = record { valid = c.requires.valid; graph_value = (none-waiting c.args.model.now c.args.graph.now c.requires.s_value.0 c.if-s-ne0.false, omega arith) }

pub root_figure-f2-requires : goal.root_figure-f2-requires
root_figure-f2-requires c = record { valid = c.requires.valid; graph_value = (none-waiting c.args.model.now c.args.graph.now c.requires.s_value.0 c.if-s-ne0.false, omega arith) }

pub root_figure-f3-requires : goal.root_figure-f3-requires
root_figure-f3-requires c = record { valid = c.requires.valid; graph_value = (none-waiting c.args.model.now c.args.graph.now c.requires.s_value.0 c.if-s-ne0.false, omega arith) }

pub returns-then-s-ne0 : goal.returns-then-s-ne0
returns-then-s-ne0 c =
    two-lines c.args.model.now c.args.graph.now c.args.s c.requires.s_value.1 c.put_counts-a.ensures.0 c.put_counts-a.ensures.1 c.put_root-b.ensures c.if-s-ne0.true

pub returns : goal.returns
returns c =
    all_lines c.args.model.now c.args.graph.now c.args.s c.requires.s_value.1 c.put_counts-a.ensures.0 c.put_counts-a.ensures.1 c.put_root-b.ensures
    c.root_figure-f0.ensures c.root_figure-f1.ensures c.root_figure-f2.ensures c.root_figure-f3.ensures
    c.put_figures.ensures c.if-s-ne0.false
