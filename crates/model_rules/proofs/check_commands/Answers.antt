use Rattle.std.proofs.Common.{ap, arith}
use Rattle.model.specs.Model.{first_record}
use Rattle.model_rules.specs.Bodies.{model_held}
use Rattle.model_rules.proofs.CheckLaws.{added-up}
use Rattle.folder.proofs.TableLaws.{test-told}
use Rattle.model_rules.proofs.check_commands.Goals as goal

pub first_bad_total-requires-clause-few : goal.first_bad_total-requires-clause-few
first_bad_total-requires-clause-few c =
    let M = model_held c.args.b.now in
    let t = added-up M (rw c.records_add_up.ensures at (test-told _ _ _ c.check.ensures c.in_ok-check.was)) in
    omega (arith, t, ap (first_record M) c.count_of-commands.ensures)
