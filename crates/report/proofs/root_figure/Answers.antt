use mathlib.Core.Path.{refl}
use native.Mathlib.Omega.{arith}
use Rattle.report.proofs.ReportLaws.{root-first, root-second}
use Rattle.report.proofs.root_figure.Goals as goal

pub returns-then-h-eq0 : goal.returns-then-h-eq0
returns-then-h-eq0 c =
    root-first c.args.model.now c.args.graph.now c.requires.valid c.requires.graph_value.0 c.args.h c.requires.graph_value.1 _ _ (omega arith) (omega arith) c.figure_fill.ensures.first_after refl c.if-h-eq0.true

pub returns-else-h-eq0 : goal.returns-else-h-eq0
returns-else-h-eq0 c =
    root-second c.args.model.now c.args.graph.now c.requires.valid c.requires.graph_value.0 c.args.h c.requires.graph_value.1 _ _ (omega arith) (omega arith) c.figure_fill.ensures.second_after refl c.if-h-eq0.false
