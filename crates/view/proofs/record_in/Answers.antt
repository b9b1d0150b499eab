use Rattle.std.proofs.Common.{arith, sym, ◌∙◌}
use Rattle.model.proofs.ViewLaws.{moved, unmoved}
use Rattle.view.proofs.PartLaws.{there-inside, there-place, there-part, none-place, none-part}
use Rattle.view.proofs.record_in.Goals as goal

pub returns-then-has : goal.returns-then-has
returns-then-has c =
    let t = sym c.has.ensures ∙ c.if-has.true in
    record {
      bytes = there-part c.args.v.model.now c.args.v.starts c.args.e c.args.i c.size-size.ensures.0 c.start.ensures t;
      place = moved c.args.v.model.ref_ptr (there-place c.args.v.model.now c.args.v.starts c.args.e c.args.i c.size-size.ensures.0 c.start.ensures t);
    }

pub returns-else-has : goal.returns-else-has
returns-else-has c =
    let t = sym c.has.ensures ∙ c.if-has.false in
    record { bytes = none-part c.args.v.model.now c.args.v.starts c.args.e c.args.i t; place = unmoved c.args.v.model.ref_ptr (none-place c.args.v.model.now c.args.v.starts c.args.e c.args.i t) }

pub overflow_mul-at : goal.overflow_mul-at
overflow_mul-at c =
    omega (arith, there-inside c.args.v.model.now c.args.v.starts c.args.e c.args.i c.size-size.ensures.0 c.start.ensures (sym c.has.ensures ∙ c.if-has.true))

pub overflow_add-at : goal.overflow_add-at
overflow_add-at c =
    omega (arith, there-inside c.args.v.model.now c.args.v.starts c.args.e c.args.i c.size-size.ensures.0 c.start.ensures (sym c.has.ensures ∙ c.if-has.true))

pub overflow_add-result : goal.overflow_add-result
overflow_add-result c =
    omega (arith, there-inside c.args.v.model.now c.args.v.starts c.args.e c.args.i c.size-size.ensures.0 c.start.ensures (sym c.has.ensures ∙ c.if-has.true))

pub slice_bounds-result-end : goal.slice_bounds-result-end
slice_bounds-result-end c =
    omega (arith, there-inside c.args.v.model.now c.args.v.starts c.args.e c.args.i c.size-size.ensures.0 c.start.ensures (sym c.has.ensures ∙ c.if-has.true))
