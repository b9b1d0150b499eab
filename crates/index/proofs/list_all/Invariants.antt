use mathlib.Core.Path.{◌≡◌}
use Prim.Native.Nat.{◌-◌}
use lib.ListN.{length}
use Rattle.index.specs.Ready.{listed_in, Seen}
use Rattle.folder.proofs.ListLaws.{Listed}
use Rattle.index.proofs.list_all.Given as goal

abbrev pub invariant-loop-n : goal.invariant-loop-n
invariant-loop-n l = Listed (listed_in l.vars l.nb) l.nodes l.initial.listing l.listing l.n l.count × (Seen l.vars l.nb l.n l.seen × (length l.seen ≡ length l.initial.seen))
