use Rattle.std.proofs.Common.{◌≡◌, rules, ap, ◌∙◌}
use Rattle.std.specs.Prelude.{Err}
use Rattle.folder.specs.Table.{outcome}
use Rattle.model.specs.Model.{Model}
use Rattle.model.specs.Table.{content_rows}
use Rattle.model_rules.proofs.CheckLaws.{folder-right, then-content, refused-so}
use Rattle.model_rules.proofs.check_model.Goals as goal

pub returns-in_err-check_folder : goal.returns-in_err-check_folder
returns-in_err-check_folder c =
    let q : c.from_residual.result ≡ Err c.in_err-check_folder.field-0.0 = search rules in
    q ∙ refused-so _ c.check_folder.ensures c.in_err-check_folder.was

pub bodies_of-requires : goal.bodies_of-requires
bodies_of-requires c = folder-right _ c.check_folder.ensures c.in_ok-check_folder.was

pub returns : goal.returns
returns c =
    then-content _ c.check_folder.ensures c.in_ok-check_folder.was
    (c.check_contents.ensures ∙ ap (λ (M : Model). outcome (content_rows M)) c.bodies_of.ensures)
