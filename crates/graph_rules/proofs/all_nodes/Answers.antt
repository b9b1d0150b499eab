use Rattle.std.proofs.Common.{refl, sym, ap, ◌∙◌}
use native.Mathlib.Omega.{arith}
use Rattle.folder.specs.Table.{refused_by}
use Rattle.folder.specs.declared.Cause.{Cause}
use Rattle.folder.proofs.ScanLaws.{scan-start, scan-next, scan-found, scan-over}
use Rattle.folder.proofs.TableLaws.{no_row, refuses, row-holds, all-rows}
use Rattle.graph.proofs.EdgePlaces.{place_none}
use Rattle.graph_rules.proofs.NodeLaws.{node_of}
use Rattle.graph_rules.proofs.all_nodes.Goals as goal

pub loop-n-init : goal.loop-n-init
loop-n-init c = (scan-start _ _, sym (place_none _ _))

pub node_rules-requires : goal.node_rules-requires
node_rules-requires c = record { node_of = node_of c.requires.rules_ready (omega (arith, c.loop-n-test.true, c.node_count-n-end.ensures)); rules_ready = c.requires.rules_ready; masks_of = c.requires.masks_of; at_value = c.loop-n.invariant.1 }

pub returns-in-Err : goal.returns-in-Err
returns-in-Err c =
    c.refuse_by.ensures ∙ ap (λ (k : Cause). refused_by k c.loop-n.n) c.in-Err.ensures.1
    ∙ refuses (no_row _) refl
    (scan-found c.loop-n.invariant.0 (omega (arith, c.loop-n-test.true, c.node_count-n-end.ensures)) refl c.in-Err.ensures.0)
    (omega (arith, c.loop-n-test.true, c.node_count-n-end.ensures))

pub loop-n-preserved : goal.loop-n-preserved
loop-n-preserved c = (
  scan-next c.loop-n.invariant.0 (omega (arith, c.loop-n-test.true, c.node_count-n-end.ensures)) refl c.in-Ok.ensures.0,
  c.in-Ok.ensures.1,
)

pub returns : goal.returns
returns c =
    all-rows (row-holds (no_row _) refl (scan-over c.loop-n.invariant.0 (omega (arith, c.node_count-n-end.ensures))) (omega (arith, c.node_count-n-end.ensures)))
