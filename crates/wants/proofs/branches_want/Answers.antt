use mathlib.Core.Path.{refl}
use native.Mathlib.Omega.{arith}
use Rattle.model.proofs.Limits.{limits}
use Rattle.building.proofs.FirstLaws.{search-start}
use Rattle.wants.proofs.Here.{read_again}
use Rattle.wants.proofs.Answers.{search-miss, search-hit, search-skip, search-end, is-read}
use Rattle.wants.proofs.branches_want.Goals as goal

pub loop-b-init : goal.loop-b-init
loop-b-init c =
    (search-skip (search-start _ _) c.next_unread-b.ensures.lower_bound.1 (λ k a l. is-read c.variable_count-vars.ensures.0 (c.requires.by_index k (omega (arith, l, c.next_unread-b.ensures.lower_bound.1))) (c.next_unread-b.ensures.by_index k a l)), c.requires.node_read.flagged, refl)

pub overflow_add-one : goal.overflow_add-one
overflow_add-one c = omega (arith, c.requires.count_bound.0, c.loop-b-test.true, (limits c.requires.node_read.node.model.folder).records)

pub returns-in-Some-clause-result_value : goal.returns-in-Some-clause-result_value
returns-in-Some-clause-result_value c = search-hit c.loop-b.invariant.0 c.loop-b-test.true c.result_wants.ensures.result_value c.in-Some.is

pub loop-b-smaller : goal.loop-b-smaller
loop-b-smaller c = omega (arith, c.next_unread-b-in-loop-b.ensures.lower_bound.0, c.loop-b-test.true, c.next_unread-b-in-loop-b.ensures.lower_bound.1)

pub loop-b-preserved : goal.loop-b-preserved
loop-b-preserved c =
    (search-skip (search-miss c.loop-b.invariant.0 c.loop-b-test.true c.result_wants.ensures.result_value c.in_default.is) c.next_unread-b-in-loop-b.ensures.lower_bound.1 (λ k a l. is-read c.variable_count-vars.ensures.0 (c.requires.by_index k (omega (arith, l, c.next_unread-b-in-loop-b.ensures.lower_bound.1))) (c.next_unread-b-in-loop-b.ensures.by_index k a l)), c.result_wants.ensures.label_flagged, omega arith)
