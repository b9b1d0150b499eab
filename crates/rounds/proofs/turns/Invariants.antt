use mathlib.Core.Path.{◌≡◌}
use lib.ListN.{length}
use Rattle.rounds.specs.Rounds.{first_at, second_at}
use Rattle.rounds.proofs.turns.Given as goal

abbrev pub invariant-loop-k : goal.invariant-loop-k
invariant-loop-k l = (l.first ≡ first_at l.s.model l.s.graph l.k l.initial.first) × (l.second ≡ second_at l.s.model l.s.graph l.k l.initial.second) × (length l.first ≡ length l.initial.first) × (length l.second ≡ length l.initial.second)
