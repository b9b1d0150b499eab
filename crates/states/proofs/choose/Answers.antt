use native.Mathlib.Omega.{arith}
use Rattle.expressions.specs.Limits.{most_expressions}
use Rattle.expressions.specs.Entries.{entries_of}
use Rattle.states.specs.Needed.{in_group}
use Rattle.states.proofs.Widening.{member-up, chosen}
use Rattle.states.proofs.choose.Goals as goal

pub returns : goal.returns
returns c =
    chosen (entries_of c.args.x.now) c.requires.lower _ _ c.close.ensures.closed_from
    (λ k l h. c.close.ensures.by_index k (member-up _ most_expressions (in_group c.args.masks.now c.args.known.now c.args.m c.args.t) c.mark_group.ensures k (omega (arith, c.count_of-n.ensures)) h))
    _ c.count_of-n.ensures c.requires.x_bound.1 (omega arith) c.list_flagged.ensures.value c.list_flagged.ensures.list_after
