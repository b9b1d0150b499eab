use Rattle.folder.proofs.FillLaws.{Filled}
use Rattle.expressions.specs.Entries.{entries_of}
use Rattle.expressions.specs.Reading.{look_in}
use Rattle.evaluate.specs.Settled.{flag_at, content_at}
use Rattle.evaluate.proofs.settle.Given as goal

abbrev pub invariant-loop-e : goal.invariant-loop-e
invariant-loop-e l = Filled (flag_at (entries_of l.x) (look_in l.t l.v)) l.e-end l.initial.known l.known l.e × Filled (content_at (entries_of l.x) (look_in l.t l.v)) l.e-end l.initial.values l.values l.e
