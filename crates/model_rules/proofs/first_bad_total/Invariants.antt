use Rattle.std.proofs.Common.{◌≡◌}
use Rattle.folder.specs.Scan.{first_bad}
use Rattle.model.specs.Model.{first_record}
use Rattle.model.specs.Rules.{weights_total}
use Rattle.model_rules.specs.Bodies.{model_held}
use Rattle.model_rules.proofs.first_bad_total.Given as goal

abbrev pub invariant-loop-c : goal.invariant-loop-c
invariant-loop-c l = (first_bad (weights_total (model_held l.b)) l.c ≡ l.c) × (l.at ≡ first_record (model_held l.b) l.c)
