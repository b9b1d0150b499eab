use Rattle.std.proofs.Common.{◌≡◌, rules, ◌∙◌}
use Rattle.std.specs.Prelude.{Err}
use Rattle.model.proofs.Limits.{limits}
use Rattle.step.proofs.StepLaws.{model-valid, model-accepted, model-refused}
use Rattle.step.proofs.step.Goals as goal

pub check_step-requires-clause-valid : goal.check_step-requires-clause-valid
check_step-requires-clause-valid c = model-valid _ c.check_model.ensures c.in_ok-check_model.was

pub check_step-requires-clause-few : goal.check_step-requires-clause-few
check_step-requires-clause-few c = (limits (model-valid _ c.check_model.ensures c.in_ok-check_model.was).folder).variables

pub returns-clause-value : goal.returns-clause-value
returns-clause-value c = (model-accepted _ c.check_model.ensures c.args.state.now c.args.command c.args.branch c.args.res.now c.in_ok-check_model.was c.check_step.ensures.value c.check_step.ensures.res_after).0

pub returns-clause-res_after : goal.returns-clause-res_after
returns-clause-res_after c = (model-accepted _ c.check_model.ensures c.args.state.now c.args.command c.args.branch c.args.res.now c.in_ok-check_model.was c.check_step.ensures.value c.check_step.ensures.res_after).1

pub returns-in_err-check_model-clause-value : goal.returns-in_err-check_model-clause-value
returns-in_err-check_model-clause-value c =
    let refused : c.from_residual.result ≡ Err c.in_err-check_model.field-0.0 = search rules in
    refused ∙ (model-refused _ c.check_model.ensures c.args.state.now c.args.command c.args.branch c.args.res.now c.in_err-check_model.was).0

pub returns-in_err-check_model-clause-res_after : goal.returns-in_err-check_model-clause-res_after
returns-in_err-check_model-clause-res_after c = (model-refused _ c.check_model.ensures c.args.state.now c.args.command c.args.branch c.args.res.now c.in_err-check_model.was).1
