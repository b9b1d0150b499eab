use Rattle.model_rules.specs.Bodies.{model_held}
use Rattle.model_rules.proofs.CheckLaws.{add-up-in}
use Rattle.model_rules.proofs.records_add_up.Goals as goal

pub returns : goal.returns
returns c = add-up-in (model_held c.args.b.now) c.requires c.first_record.ensures c.count_of.ensures
