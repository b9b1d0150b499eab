use Rattle.figures.proofs.CallLaws.{rows_long}
use Rattle.figures.proofs.figure_fill.Goals as goal

pub run_rounds-requires-clause-g_in_bounds : goal.run_rounds-requires-clause-g_in_bounds
run_rounds-requires-clause-g_in_bounds c =
    rows_long c.args.m.now c.args.g.now c.args.h c.args.first.now c.args.second.now c.figure_check.ensures c.in_ok-figure_check.was
