use Prim.Native.Nat.{ℕ, ◌+◌}
use Rattle.std.proofs.Common.{◌≡◌, rules, sym, ap, ◌∙◌}
use Rattle.std.specs.Prelude.{Err, [], ◌∷◌, leb, length}
use Rattle.folder.specs.Table.{outcome, single}
use Rattle.model.specs.Layout.{variable_count}
use Rattle.model.specs.Model.{model_of}
use Rattle.graph.specs.Limits.{least_bytes}
use Rattle.graph.specs.Simulation.{node_size}
use Rattle.assembly.specs.Build.{one_node}
use Rattle.assembly.proofs.CallLaws.{pair-stops, pair-goes-on}
use Rattle.assembly.proofs.build_check.Goals.{After-check}
use Rattle.assembly.proofs.build_check.Goals as goal

-- Place 0 by the model.
room : (c : After-check) → c.check.result ≡ outcome (single 35 0 (leb (one_node (model_of c.args.m.now)) (length c.args.out.now)) ∷ [])
room c =
    let size_is : c.node_size-one.result ≡ node_size (variable_count c.args.m.now) = c.node_size-one.ensures.0 ∙ ap node_size c.variable_count.ensures.0 in
    c.check.ensures ∙ ap (λ (w : ℕ). outcome (single 35 0 (leb (least_bytes + w) (length c.args.out.now)) ∷ [])) size_is

pub returns-in_err-check : goal.returns-in_err-check
returns-in_err-check c =
    let q : c.from_residual.result ≡ Err c.in_err-check.field-0.0 = search rules in
    q ∙ pair-stops 35 _ _ (sym c.in_err-check.was ∙ room (goal.at.returns-in_err-check c).After-check)

pub returns : goal.returns
returns c = c.check-2.ensures ∙ pair-goes-on 35 _ _ (sym c.in_ok-check.was ∙ room (goal.at.returns c).After-check)
