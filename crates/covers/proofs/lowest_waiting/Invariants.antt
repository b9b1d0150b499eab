use Prim.Native.Nat.{◌-◌}
use Rattle.folder.specs.Fields.{field_limit}
use Rattle.covers.specs.Covers.{SomeWaits}
use Rattle.covers.proofs.lowest_waiting.Given as goal

abbrev pub invariant-loop-n : goal.invariant-loop-n
invariant-loop-n l = SomeWaits l.vars l.nb l.n

abbrev pub decreases-loop-n : goal.decreases-loop-n
decreases-loop-n l = field_limit - l.n
