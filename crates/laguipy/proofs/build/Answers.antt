use Rattle.std.proofs.Common.{◌≡◌, rules, sym, ◌∙◌}
use Rattle.std.specs.Prelude.{Err}
use Rattle.model.proofs.Decided.{accepted-valid}
use Rattle.laguipy.proofs.BuildLaws.{build-refused, build-goes-on}
use Rattle.laguipy.proofs.build.Goals as goal

pub build_lent-requires : goal.build_lent-requires
build_lent-requires c = (accepted-valid c.args.model.now).0 (sym c.check_model.ensures ∙ c.in_ok-check_model.was)

pub returns-in_err-check_model : goal.returns-in_err-check_model
returns-in_err-check_model c =
    let q : c.from_residual.result ≡ Err c.in_err-check_model.field-0.0 = search rules in
    let r = build-refused c.args.model.now c.args.rounds c.args.out.now (sym c.check_model.ensures ∙ c.in_err-check_model.was) in
    record { value = q ∙ r.0; out_after = r.1 }

pub returns : goal.returns
returns c =
    let r = build-goes-on c.args.model.now c.args.rounds c.args.out.now (sym c.check_model.ensures ∙ c.in_ok-check_model.was) c.build_lent.ensures.value c.build_lent.ensures.out_after in
    record { value = r.0; out_after = r.1 }
