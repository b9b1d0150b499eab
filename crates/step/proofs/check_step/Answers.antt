use Rattle.std.proofs.Common.{◌≡◌, ℕ, rules, arith, sym, ap, ◌∙◌, length, take, drop}
use lib.Seq.{take_at}
use Rattle.folder.specs.Table.{outcome}
use Rattle.folder.proofs.Decides.{same, at_most, ◌∧also◌}
use Rattle.folder.proofs.TableLaws.{test-told, row-told}
use Rattle.expressions.specs.Meaning.{State}
use Rattle.model.specs.Model.{model_of}
use Rattle.model.specs.Chances.{InRange}
use Rattle.model.specs.Step.{step_rows, step_row_of, value_fits}
use Rattle.step.specs.Stepping.{fits_in}
use Rattle.step.proofs.StepLaws.{in-range}
use Rattle.step.proofs.check_step.Goals as goal

pub load-requires : goal.load-requires
load-requires c =
    let fit = (same (length c.args.state.now) c.variable_count-n.result ∧also at_most c.variable_count-n.result (length c.args.res.now)).yes (test-told _ _ _ c.check.ensures c.in_ok-check.was) in
    omega (arith, fit)

pub slice_bounds-row-end : goal.slice_bounds-row-end
slice_bounds-row-end c = omega (arith, c.load.auto)

pub slice_bounds-take_branch-end : goal.slice_bounds-take_branch-end
slice_bounds-take_branch-end c =
    let fit = (same (length c.args.state.now) c.variable_count-n.result ∧also at_most c.variable_count-n.result (length c.args.res.now)).yes (test-told _ _ _ c.check.ensures c.in_ok-check.was) in
    let loaded : take c.variable_count-n.result c.load.new.row ≡ c.args.state.now = ap (take c.variable_count-n.result) c.load.ensures ∙ take_at _ _ _ fit.0 in
    sym (ap length loaded ∙ fit.0)

pub take_branch-requires-clause-in_range : goal.take_branch-requires-clause-in_range
take_branch-requires-clause-in_range c =
    let fit = (same (length c.args.state.now) c.variable_count-n.result ∧also at_most c.variable_count-n.result (length c.args.res.now)).yes (test-told _ _ _ c.check.ensures c.in_ok-check.was) in
    let loaded : take c.variable_count-n.result c.load.new.row ≡ c.args.state.now = ap (take c.variable_count-n.result) c.load.ensures ∙ take_at _ _ _ fit.0 in
    let passed = row-told _ _ _ (c.check_each.ensures (fits_in c.body-y.result.now c.args.state.now) (search rules)) c.in_ok-check_each.was in
    rw loaded (in-range c.args.m.now c.args.state.now c.body-y.ensures c.variable_count-n.ensures.0 fit.0 passed)

pub take_branch-requires-clause-s_in_bounds : goal.take_branch-requires-clause-s_in_bounds
take_branch-requires-clause-s_in_bounds c =
    let fit = (same (length c.args.state.now) c.variable_count-n.result ∧also at_most c.variable_count-n.result (length c.args.res.now)).yes (test-told _ _ _ c.check.ensures c.in_ok-check.was) in
    let loaded : take c.variable_count-n.result c.load.new.row ≡ c.args.state.now = ap (take c.variable_count-n.result) c.load.ensures ∙ take_at _ _ _ fit.0 in
    omega (arith, ap length loaded, fit)

pub returns-clause-value : goal.returns-clause-value
unfolding outcome value_fits
returns-clause-value c =
    let fit = (same (length c.args.state.now) c.variable_count-n.result ∧also at_most c.variable_count-n.result (length c.args.res.now)).yes (test-told _ _ _ c.check.ensures c.in_ok-check.was) in
    let loaded : take c.variable_count-n.result c.load.new.row ≡ c.args.state.now = ap (take c.variable_count-n.result) c.load.ensures ∙ take_at _ _ _ fit.0 in
    let rest : c.take_branch.result ≡ outcome (drop 2 (step_rows (model_of c.args.m.now) c.args.state.now c.args.command c.args.branch c.args.res.now)) =
    c.take_branch.ensures.value ∙ ap (λ (t : State). outcome (drop 2 (step_rows (model_of c.args.m.now) t c.args.command c.args.branch c.args.res.now))) loaded in
    search rules

pub returns-clause-res_after : goal.returns-clause-res_after
returns-clause-res_after c =
    let fit = (same (length c.args.state.now) c.variable_count-n.result ∧also at_most c.variable_count-n.result (length c.args.res.now)).yes (test-told _ _ _ c.check.ensures c.in_ok-check.was) in
    let loaded : take c.variable_count-n.result c.load.new.row ≡ c.args.state.now = ap (take c.variable_count-n.result) c.load.ensures ∙ take_at _ _ _ fit.0 in
    c.take_branch.ensures.res_after ∙ ap (λ (t : State). step_row_of (model_of c.args.m.now) t c.args.command c.args.branch c.args.res.now c.take_branch.result) loaded
