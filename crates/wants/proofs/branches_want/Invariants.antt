use Prim.Native.Nat.{◌+◌, ◌-◌}
use mathlib.Core.Path.{◌≡◌}
use lib.ListN.{length}
use Rattle.building.proofs.FirstLaws.{Searched}
use Rattle.wants.specs.Wants.{result_in, LabelFlagged}
use Rattle.wants.proofs.branches_want.Given as goal

abbrev pub invariant-loop-b : goal.invariant-loop-b
invariant-loop-b l = Searched (λ i. result_in l.m l.nb l.n (l.lead.node + i) (l.lead.record + i)) l.count l.b × LabelFlagged l.m l.nb l.n l.known × (length l.known ≡ length l.initial.known)

abbrev pub decreases-loop-b : goal.decreases-loop-b
decreases-loop-b l = l.count - l.b
