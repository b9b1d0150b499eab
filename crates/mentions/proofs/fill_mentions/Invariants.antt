use Rattle.folder.proofs.FillLaws.{Filled}
use Rattle.expressions.specs.Entries.{entries_of}
use Rattle.expressions.specs.Mentions.{mentions}
use Rattle.mentions.proofs.fill_mentions.Given as goal

abbrev pub invariant-loop-e : goal.invariant-loop-e
invariant-loop-e l = Filled (mentions (entries_of l.x)) l.e-end l.initial.masks l.masks l.e
