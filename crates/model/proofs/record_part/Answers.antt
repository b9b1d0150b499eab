use mathlib.Core.Path.{sym, ◌∙◌}
use native.Mathlib.Omega.{arith}
use Rattle.model.proofs.ViewLaws.{there-body, there-inside, there-start, there-part, none-start, none-part, moved, unmoved}
use Rattle.model.proofs.record_part.Goals as goal

pub returns-then-record_there : goal.returns-then-record_there
returns-then-record_there c =
    let t = sym c.record_there.ensures ∙ c.if-record_there.true in
    record {
      result_value = there-part _ _ _ t c.record_size-size.ensures.0 c.start_of.ensures.0;
      ref_ptr_value = moved c.args.m.ref_ptr (there-start _ _ _ t c.record_size-size.ensures.0 c.start_of.ensures.0);
    }

pub returns-else-record_there : goal.returns-else-record_there
returns-else-record_there c =
    let t = sym c.record_there.ensures ∙ c.if-record_there.false in
    record { result_value = none-part _ _ _ t; ref_ptr_value = unmoved c.args.m.ref_ptr (none-start _ _ _ t) }

pub record_size-size-requires : goal.record_size-size-requires
record_size-size-requires c = there-body _ _ _ (sym c.record_there.ensures ∙ c.if-record_there.true)

pub start_of-requires : goal.start_of-requires
start_of-requires c = omega (arith, there-body _ _ _ (sym c.record_there.ensures ∙ c.if-record_there.true))

pub overflow_mul-at : goal.overflow_mul-at
overflow_mul-at c =
    omega (arith, there-inside _ _ _ (sym c.record_there.ensures ∙ c.if-record_there.true) c.record_size-size.ensures.0 c.start_of.ensures.0)

pub overflow_add-at : goal.overflow_add-at
overflow_add-at c =
    omega (arith, there-inside _ _ _ (sym c.record_there.ensures ∙ c.if-record_there.true) c.record_size-size.ensures.0 c.start_of.ensures.0)

pub overflow_add-result : goal.overflow_add-result
overflow_add-result c =
    omega (arith, there-inside _ _ _ (sym c.record_there.ensures ∙ c.if-record_there.true) c.record_size-size.ensures.0 c.start_of.ensures.0)

pub slice_bounds-result-end : goal.slice_bounds-result-end
slice_bounds-result-end c =
    omega (arith, there-inside _ _ _ (sym c.record_there.ensures ∙ c.if-record_there.true) c.record_size-size.ensures.0 c.start_of.ensures.0)
