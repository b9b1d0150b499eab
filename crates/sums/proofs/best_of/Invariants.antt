use Prim.Native.Nat.{◌<◌, ◌^◌}
use mathlib.Core.Path.{◌≡◌}
use Rattle.sums.specs.Edges.{after, best_of}
use Rattle.sums.proofs.best_of.Given as goal

abbrev pub invariant-loop : goal.invariant-loop
invariant-loop l = (l.k ≡ after l.cs l.eb l.at l.counter) × (l.best ≡ best_of l.cs l.eb l.weights l.firsts l.row l.at l.counter) × (l.best < 2 ^ 52)
