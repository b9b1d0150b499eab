use mathlib.Core.Path.{sym, ◌∙◌}
use Rattle.graph.proofs.Decided.{accepted-valid}
use Rattle.laguipy.proofs.CallLaws.{figure-graph-refused, figure-goes-on, part-is, starts-in}
use Rattle.laguipy.proofs.figure.Goals as goal

pub figure_part-requires : goal.figure_part-requires
figure_part-requires c = (accepted-valid c.args.model.now c.args.graph.now).0 (sym c.graph_outcome.ensures ∙ c.in-Ok.is)

pub returns-in-Err : goal.returns-in-Err
returns-in-Err c = let r = figure-graph-refused c.args.model.now c.args.graph.now c.args.h c.args.first.now c.args.second.now _ (sym c.graph_outcome.ensures ∙ c.in-Err.is) in record { result_value = sym (part-is c.args.model.now c.args.graph.now c.args.h c.args.first.now c.args.second.now r); ref_ptr_value = sym (starts-in c.args.model.now c.args.graph.now c.args.h c.args.first.now c.args.second.now r c.args.first.ref_ptr c.args.second.ref_ptr) }

pub returns-in-Ok : goal.returns-in-Ok
returns-in-Ok c = let r = figure-goes-on c.args.model.now c.args.graph.now c.args.h c.args.first.now c.args.second.now (sym c.graph_outcome.ensures ∙ c.in-Ok.is) in record { result_value = c.figure_part.ensures.result_value ∙ sym (part-is c.args.model.now c.args.graph.now c.args.h c.args.first.now c.args.second.now r); ref_ptr_value = c.figure_part.ensures.ref_ptr_value ∙ sym (starts-in c.args.model.now c.args.graph.now c.args.h c.args.first.now c.args.second.now r c.args.first.ref_ptr c.args.second.ref_ptr) }
