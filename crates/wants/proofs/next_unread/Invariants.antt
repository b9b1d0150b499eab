use Prim.Native.Nat.{ℕ, ◌+◌, ◌<◌, ◌≤◌}
use Rattle.wants.specs.Wants.{IsRead}
use Rattle.wants.proofs.next_unread.Given as goal

abbrev pub invariant-loop-b : goal.invariant-loop-b
invariant-loop-b l = (l.from ≤ l.b) × (l.b ≤ l.end) × ((k : ℕ) → l.from ≤ k → k < l.b → IsRead l.vars l.nb (l.start + k))
