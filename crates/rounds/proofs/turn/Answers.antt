use mathlib.Core.Path.{refl}
use borrow.Author.Tests.{eq-eqb, ne_eqb}
use Rattle.rounds.specs.Rounds.{held_in, turn_first, turn_second}
use Rattle.rounds.proofs.turn.Goals as goal

pub next_round-requires : goal.next_round-requires
unfolding held_in
next_round-requires c = record { round = rw (eq-eqb _ _ c.if-k-eq0.true) at c.requires.round; g_in_bounds = c.requires.g_in_bounds.1 }

pub next_round-requires-else-k-eq0 : goal.next_round-requires-else-k-eq0
unfolding held_in
next_round-requires-else-k-eq0 c = record { round = rw (ne_eqb _ _ c.if-k-eq0.false) at c.requires.round; g_in_bounds = c.requires.g_in_bounds.0 }

pub returns-then-k-eq0 : goal.returns-then-k-eq0
unfolding turn_first turn_second
returns-then-k-eq0 c = let e = eq-eqb _ _ c.if-k-eq0.true in record { first_after = rw e refl; second_after = rw e c.next_round.ensures }

pub returns-else-k-eq0 : goal.returns-else-k-eq0
unfolding turn_first turn_second
returns-else-k-eq0 c = let e = ne_eqb _ _ c.if-k-eq0.false in record { first_after = rw e c.next_round-else-k-eq0.ensures; second_after = rw e refl }
