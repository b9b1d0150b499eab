use mathlib.Core.Path.{◌≡◌}
use lib.ListN.{length}
use Rattle.expressions.specs.Limits.{most_expressions}
use Rattle.expand.specs.Node.{LabelFlagged}
use Rattle.expand.specs.Follow.{FollowedTo, flags_of}
use Rattle.expand.proofs.Asking.{open_flags}
use Rattle.expand.proofs.b2.Given as goal

abbrev pub invariant-loop-next : goal.invariant-loop-next
invariant-loop-next l = LabelFlagged l.m l.g l.n l.known × (length l.known ≡ length l.initial.known) × FollowedTo l.m l.g l.n (flags_of l.m l.g l.known l.state) l.edge l.p

abbrev pub decreases-loop-next : goal.decreases-loop-next
decreases-loop-next l = open_flags most_expressions l.known
