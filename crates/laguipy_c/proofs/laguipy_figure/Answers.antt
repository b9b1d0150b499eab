use mathlib.Core.Path.{sym, ap, ◌∙◌}
use Rattle.folder.specs.Table.{outcome_number, outcome_places}
use Rattle.graph.proofs.Decided.{figure-valid}
use Rattle.laguipy_c.proofs.FigureLaws.{none-stand, all-stand}
use Rattle.laguipy_c.proofs.laguipy_figure.Goals as goal

pub node_count-count-requires : goal.node_count-count-requires
node_count-count-requires c =
    ((figure-valid c.args.model.now c.args.graph.now c.args.h c.args.first.now c.args.second.now).0 (sym c.figure_rows.ensures.value ∙ c.in-Ok.is)).0.model

pub returns-in-Ok : goal.returns-in-Ok
returns-in-Ok c =
    let t = sym c.figure_rows.ensures.value ∙ c.in-Ok.is in
    record { value = sym (ap outcome_number t); first_after = c.figure_rows.ensures.first_after; second_after = c.figure_rows.ensures.second_after; place_after = sym (ap outcome_places t); part_after = all-stand c.args.model.now c.args.graph.now c.args.h c.args.first.now c.args.second.now t c.row_of.ensures c.node_count-count.ensures }

pub returns-in-Err : goal.returns-in-Err
returns-in-Err c =
    let t = sym c.figure_rows.ensures.value ∙ c.in-Err.is in
    record { value = sym (ap outcome_number t); first_after = c.figure_rows.ensures.first_after; second_after = c.figure_rows.ensures.second_after; place_after = sym (ap outcome_places t); part_after = none-stand c.args.model.now c.args.graph.now c.args.h c.args.first.now c.args.second.now _ t }
