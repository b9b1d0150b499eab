use Prim.Native.Nat.{ℕ, ◌-◌}
use mathlib.Core.Path.{◌≡◌, sym, ap, ◌∙◌, subst}
use native.Mathlib.Omega.{arith}
use lib.IntN.{ℤ, pos}
use lib.ListN.{get_or}
use Rattle.folder.proofs.Signed.{back}
use Rattle.put.specs.Put.{unsigned, FitsField}
use Rattle.held.specs.Held.{state_field}
use Rattle.nodes.specs.Born.{result_of}
use Rattle.nodes.proofs.NodeLaws.{value-field, new-parent, new-value, new-blank}
use Rattle.nodes.proofs.new_field.Goals.{After-value_at}
use Rattle.nodes.proofs.new_field.Goals as goal

pub returns-then-f-eq-PARENT : goal.returns-then-f-eq-PARENT
returns-then-f-eq-PARENT c = (new-parent _ _ _ _ _ _ c.if-f-eq-PARENT.true, c.requires.vars_le_most_variables.2)

pub overflow_sub-f : goal.overflow_sub-f
overflow_sub-f c = (value-field c.args.vars c.args.f c.if-f-vars.true).0

-- What the record gives.
value : (c : After-value_at) → c.value_at.result ≡ result_of c.args.vars c.args.bs.now c.args.row.now c.args.r (c.args.f - state_field)
value c = c.value_at.ensures ∙ ap (λ (e : ℕ). get_or c.args.row.now e (pos 0)) c.field-e.ensures.0

pub unsigned_of-requires : goal.unsigned_of-requires
unsigned_of-requires c =
    let h = value-field c.args.vars c.args.f c.if-f-vars.true in
    subst (λ (z : ℤ). FitsField z) (sym (back c.value_at.type_inv ∙ value (goal.at.unsigned_of-requires c).After-value_at)) (c.requires.results_fit.fits (c.args.f - state_field) (omega arith))

pub returns-then-f-vars : goal.returns-then-f-vars
returns-then-f-vars c = (
  c.unsigned_of.ensures.0 ∙ ap unsigned (back c.value_at.type_inv ∙ value (goal.at.returns-then-f-vars c).After-value_at) ∙ new-value _ _ _ _ _ _ c.if-f-eq-PARENT.false c.if-f-vars.true,
  c.unsigned_of.ensures.1,
)

pub returns : goal.returns
returns c = (new-blank _ _ _ _ _ _ c.if-f-eq-PARENT.false c.if-f-vars.false, omega arith)
