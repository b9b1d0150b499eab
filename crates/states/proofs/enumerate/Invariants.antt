use mathlib.Core.Path.{◌≡◌}
use lib.ListN.{length}
use Rattle.expressions.specs.Limits.{most_expressions}
use Rattle.expressions.specs.Entries.{entries_of}
use Rattle.choices.specs.Ranged.{label_in}
use Rattle.states.proofs.Looking.{Looked}
use Rattle.states.proofs.enumerate.Given as goal

abbrev pub invariant-loop : goal.invariant-loop
invariant-loop l = Looked (entries_of l.x) (label_in l.y l.q.tracked l.vals) l.q.mask l.q.entry l.list l.state l.initial.flags l.row l.flags l.counter × (length l.values ≡ most_expressions)
