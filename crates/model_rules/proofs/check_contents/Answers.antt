use Rattle.std.proofs.Common.{arith, rules, sym, ap, ◌∙◌}
use Rattle.folder.specs.Scan.{first_bad}
use Rattle.model.specs.Rules.{variable_fits}
use Rattle.model_rules.specs.Bodies.{model_held}
use Rattle.model_rules.proofs.CheckLaws.{based, settled-all}
use Rattle.folder.proofs.TableLaws.{row-told}
use Rattle.model_rules.proofs.check_contents.Goals as goal

pub fill_ranges-ranged-requires-clause-based : goal.fill_ranges-ranged-requires-clause-based
fill_ranges-ranged-requires-clause-based c =
    let rows = row-told _ _ _ (c.check_each.ensures (variable_fits (model_held c.args.b.now)) (search rules)) c.in_ok-check_each.was in
    let rows5 = row-told _ _ _ (c.check_scan.ensures _ (c.first_bad_entry.ensures ∙ ap (first_bad _) (sym c.count_of-entries.ensures))) c.in_ok-check_scan.was in
    based c.args.b.now c.count_of-variables.ensures rows (rw c.count_of-entries.ensures at rows5)

pub check_commands-requires : goal.check_commands-requires
check_commands-requires c =
    let rows6 = row-told _ _ _ (c.check_scan-2.ensures _ (c.fill_ranges-ranged.ensures.value ∙ ap (first_bad _) (sym c.count_of-entries.ensures))) c.in_ok-check_scan-2.was in
    record {
      held = settled-all _ _ c.fill_ranges-ranged.ensures.value (rw c.count_of-entries.ensures at rows6) _
          c.fill_ranges-ranged.ensures.row_after (omega arith);
    }
