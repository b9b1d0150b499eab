use Rattle.std.proofs.Common.{◌+◌, ◌-◌, ◌≤◌}
use Rattle.check_graph.specs.Printed.{most_read}
use Rattle.check_graph.proofs.read_all.Given as goal

abbrev pub invariant-loop-at : goal.invariant-loop-at
invariant-loop-at g l = l.at ≤ most_read + 1

-- each turn reads a byte at least
abbrev pub decreases-loop-at : goal.decreases-loop-at
decreases-loop-at g l = most_read + 1 - l.at
