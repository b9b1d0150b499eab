use native.Mathlib.Omega.{arith}
use Rattle.folder.proofs.FillLaws.{fill_start, fill-next}
use Rattle.expressions.specs.Entries.{entries_of}
use Rattle.expressions.specs.Mentions.{union}
use Rattle.mentions.proofs.Masks.{masked, both-sorts}
use Rattle.mentions.proofs.fill_mentions.Goals as goal

pub mention_number-requires-clause-masked : goal.mention_number-requires-clause-masked
mention_number-requires-clause-masked c = masked (entries_of c.args.x.now) c.loop-e.e c.args.masks.now c.loop-e.invariant.is

pub mention_truth-requires-clause-masked : goal.mention_truth-requires-clause-masked
mention_truth-requires-clause-masked c = masked (entries_of c.args.x.now) c.loop-e.e c.args.masks.now c.loop-e.invariant.is

pub loop-e-preserved : goal.loop-e-preserved
unfolding union
loop-e-preserved c =
    fill-next c.loop-e.invariant c.loop-e-test.true (omega arith)
    (both-sorts (entries_of c.args.x.now) c.loop-e.e c.mention_number.ensures c.mention_truth.ensures)

pub loop-e-init : goal.loop-e-init
loop-e-init c = fill_start _ _ _
