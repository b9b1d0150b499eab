use mathlib.Core.Path.{sym, ◌∙◌}
use Rattle.folder.proofs.TableLaws.{test-told}
use Rattle.graph.proofs.Decided.{bytes-decided, nodes-decided}
use Rattle.graph.proofs.check_rows.Goals as goal

pub check_contents-requires-clause-g_bound : goal.check_contents-requires-clause-g_bound
check_contents-requires-clause-g_bound c = (
  ((nodes-decided _ _).yes (sym (c.nodes_fit.ensures _ _ c.variable_count.ensures.0 c.body.ensures) ∙ test-told _ _ _ c.check-2.ensures c.in_ok-check-2.was)).1,
  ((bytes-decided c.args.g.now).yes (sym c.bytes_fit.ensures ∙ test-told _ _ _ c.check.ensures c.in_ok-check.was)).1,
)
