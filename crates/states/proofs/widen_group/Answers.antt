use native.Mathlib.Omega.{arith}
use Rattle.expressions.specs.Limits.{most_expressions}
use Rattle.expressions.specs.Entries.{entries_of}
use Rattle.expressions.proofs.Levels.{lower}
use Rattle.states.specs.Needed.{in_group}
use Rattle.states.proofs.Widening.{is_member, member-up, asked_in, one-differs, all-agree}
use Rattle.states.proofs.widen_group.Goals as goal

pub choose-count-requires-clause-lower : goal.choose-count-requires-clause-lower
choose-count-requires-clause-lower c = lower (entries_of c.args.x.now) _ c.requires.asked.readable.formed.right

pub enumerate-requires-clause-up : goal.enumerate-requires-clause-up
enumerate-requires-clause-up c =
    member-up _ most_expressions (in_group c.args.masks.now c.args.known.now c.args.q.mask c.args.q.tracked) c.mark_group.ensures _ (omega (arith, c.requires.asked.there, c.count_of-n.ensures))
    (asked_in (entries_of c.args.x.now) c.args.y.now c.args.vals.now c.args.masks.now c.args.state.now c.args.known.now _ _ c.requires.asked _ _ c.requires.mask_value c.requires.ways_value.0 c.requires.ways_value.1)

pub enumerate-requires-clause-before : goal.enumerate-requires-clause-before
enumerate-requires-clause-before c =
    c.choose-count.ensures.members _ c.requires.asked.there
    (asked_in (entries_of c.args.x.now) c.args.y.now c.args.vals.now c.args.masks.now c.args.state.now c.args.known.now _ _ c.requires.asked _ _ c.requires.mask_value c.requires.ways_value.0 c.requires.ways_value.1)

pub returns-then-enumerate : goal.returns-then-enumerate
returns-then-enumerate c =
    all-agree (entries_of c.args.x.now) c.args.y.now c.args.vals.now c.args.masks.now c.args.state.now c.args.known.now _ _ c.requires.asked _ _ c.requires.mask_value c.requires.ways_value.0 c.requires.ways_value.1
    (λ k u. let h = is_member _ most_expressions (in_group c.args.masks.now c.args.known.now c.args.q.mask c.args.q.tracked) c.mark_group.ensures k u in (omega (arith, h.0, c.count_of-n.ensures), h.1))
    c.choose-count.ensures.members
    (c.enumerate.ensures.all_agree c.if-enumerate.true) (rw c.count_of-n.ensures at c.raise_all.ensures)

pub returns-else-enumerate : goal.returns-else-enumerate
returns-else-enumerate c =
    one-differs (entries_of c.args.x.now) c.args.y.now c.args.vals.now c.args.masks.now c.args.state.now c.args.known.now _ _ c.requires.asked _ _ c.requires.mask_value c.requires.ways_value.0 c.requires.ways_value.1 _ (c.enumerate.ensures.one_differs c.if-enumerate.false)
