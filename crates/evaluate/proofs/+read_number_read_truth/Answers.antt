use mathlib.Core.Path.{◌≡◌, ◌∙◌, ap, ap₂}
use mir.Syntax.{w64}
use mir.Val.{to_z, of_z}
use borrow.Author.Rules.{rules}
use Rattle.expressions.specs.Mentions.{carry_n, carry_t}
use Rattle.expressions.specs.Reading.{arith_n, compare_n, not_t, join_t, look_in, reading}
use Rattle.expressions.proofs.Levels.{equal}
use Rattle.evaluate.proofs.Level.{number-part, truth-part, number-none, truth-none, number-level, truth-level, small-read}
use Rattle.evaluate.proofs.+read_number_read_truth.Goals as goal
use Rattle.std.specs.Prelude.{Ok}

pub read_number-returns-then-left-eq0 : goal.read_number-returns-then-left-eq0
read_number-returns-then-left-eq0 t c =
    c.carry.ensures ∙ ap (carry_n _) (number-none c.args.x.now c.args.t c.args.v.now c.args.left c.args.e c.if-left-eq0.true)

pub read_number-combine-requires : goal.read_number-combine-requires
read_number-combine-requires t c =
    (small-read c.args.x.now c.args.t c.args.v.now _ _ c.requires.bounded (number-part c.args.x.now c.args.t c.args.v.now _ _ _ c.ok-a.ensures.value c.read_number.ensures), small-read c.args.x.now c.args.t c.args.v.now _ _ c.requires.bounded (number-part c.args.x.now c.args.t c.args.v.now _ _ _ c.ok-b.ensures.value c.read_number-in-Binary.ensures))

pub read_number-returns-in-Constant : goal.read_number-returns-in-Constant
read_number-returns-in-Constant t c =
    let ok : to_z w64 (of_z w64 c.in-Constant.z) ≡ c.in-Constant.z = search rules in
    ap Ok ok ∙ ap (carry_n _) (number-level c.args.x.now c.args.t c.args.v.now c.args.left c.args.e _ c.if-left-eq0.false c.number_form-f.ensures.0 c.in-Constant.is)

pub read_number-returns-in-Variable : goal.read_number-returns-in-Variable
read_number-returns-in-Variable t c =
    c.carry-in-Variable.ensures ∙ ap (carry_n _) (c.look_in.ensures ∙ number-level c.args.x.now c.args.t c.args.v.now c.args.left c.args.e _ c.if-left-eq0.false c.number_form-f.ensures.0 c.in-Variable.is)

pub read_number-returns-in-Binary : goal.read_number-returns-in-Binary
read_number-returns-in-Binary t c =
    let a = number-part c.args.x.now c.args.t c.args.v.now _ _ _ c.ok-a.ensures.value c.read_number.ensures in
    let b = number-part c.args.x.now c.args.t c.args.v.now _ _ _ c.ok-b.ensures.value c.read_number-in-Binary.ensures in
    c.carry-in-Binary.ensures ∙ ap (carry_n _) (c.combine.ensures ∙ ap₂ (arith_n _) a b ∙ number-level c.args.x.now c.args.t c.args.v.now c.args.left c.args.e _ c.if-left-eq0.false c.number_form-f.ensures.0 c.in-Binary.is)

pub read_number-returns-in-If : goal.read_number-returns-in-If
read_number-returns-in-If t c =
    let u = truth-part c.args.x.now c.args.t c.args.v.now _ _ _ c.ok-u.ensures.value c.read_truth.ensures in
    let a = number-part c.args.x.now c.args.t c.args.v.now _ _ _ c.ok-a-in-If.ensures.value c.read_number-in-If.ensures in
    let b = number-part c.args.x.now c.args.t c.args.v.now _ _ _ c.ok-b-in-If.ensures.value c.read_number-in-If-2.ensures in
    c.carry-in-If.ensures ∙ ap (carry_n _) (c.choose.ensures ∙ (equal (reading (look_in c.args.t c.args.v.now))).choose u a b ∙ number-level c.args.x.now c.args.t c.args.v.now c.args.left c.args.e _ c.if-left-eq0.false c.number_form-f.ensures.0 c.in-If.is)

pub read_number-returns-in-NoNumber : goal.read_number-returns-in-NoNumber
read_number-returns-in-NoNumber t c =
    c.carry-in-NoNumber.ensures ∙ ap (carry_n _) (number-level c.args.x.now c.args.t c.args.v.now c.args.left c.args.e _ c.if-left-eq0.false c.number_form-f.ensures.0 c.in-NoNumber.is)

pub read_truth-returns-then-left-eq0 : goal.read_truth-returns-then-left-eq0
read_truth-returns-then-left-eq0 t c =
    c.carry.ensures ∙ ap (carry_t _) (truth-none c.args.x.now c.args.t c.args.v.now c.args.left c.args.e c.if-left-eq0.true)

pub read_truth-returns-in-Compare : goal.read_truth-returns-in-Compare
read_truth-returns-in-Compare t c =
    let a = number-part c.args.x.now c.args.t c.args.v.now _ _ _ c.ok-a.ensures.value c.read_number.ensures in
    let b = number-part c.args.x.now c.args.t c.args.v.now _ _ _ c.ok-b.ensures.value c.read_number-in-Compare.ensures in
    c.carry-in-Compare.ensures ∙ ap (carry_t _) (c.compare.ensures ∙ ap₂ (compare_n _) a b ∙ truth-level c.args.x.now c.args.t c.args.v.now c.args.left c.args.e _ c.if-left-eq0.false c.truth_form-f.ensures.0 c.in-Compare.is)

pub read_truth-returns-in-Not : goal.read_truth-returns-in-Not
read_truth-returns-in-Not t c =
    let a = truth-part c.args.x.now c.args.t c.args.v.now _ _ _ c.ok-a-in-Not.ensures.value c.read_truth.ensures in
    c.carry-in-Not.ensures ∙ ap (carry_t _) (c.negate.ensures ∙ ap not_t a ∙ truth-level c.args.x.now c.args.t c.args.v.now c.args.left c.args.e _ c.if-left-eq0.false c.truth_form-f.ensures.0 c.in-Not.is)

pub read_truth-returns-in-Joined : goal.read_truth-returns-in-Joined
read_truth-returns-in-Joined t c =
    let a = truth-part c.args.x.now c.args.t c.args.v.now _ _ _ c.ok-a-in-Joined.ensures.value c.read_truth-in-Joined.ensures in
    let b = truth-part c.args.x.now c.args.t c.args.v.now _ _ _ c.ok-b-in-Joined.ensures.value c.read_truth-in-Joined-2.ensures in
    c.carry-in-Joined.ensures ∙ ap (carry_t _) (c.joined.ensures ∙ ap₂ (join_t c.in-Joined.k) a b ∙ truth-level c.args.x.now c.args.t c.args.v.now c.args.left c.args.e _ c.if-left-eq0.false c.truth_form-f.ensures.0 c.in-Joined.is)

pub read_truth-returns-in-Always : goal.read_truth-returns-in-Always
read_truth-returns-in-Always t c =
    ap (carry_t _) (truth-level c.args.x.now c.args.t c.args.v.now c.args.left c.args.e _ c.if-left-eq0.false c.truth_form-f.ensures.0 c.in-Always.is)

pub read_truth-returns-in-NoTruth : goal.read_truth-returns-in-NoTruth
read_truth-returns-in-NoTruth t c =
    c.carry-in-NoTruth.ensures ∙ ap (carry_t _) (truth-level c.args.x.now c.args.t c.args.v.now c.args.left c.args.e _ c.if-left-eq0.false c.truth_form-f.ensures.0 c.in-NoTruth.is)
