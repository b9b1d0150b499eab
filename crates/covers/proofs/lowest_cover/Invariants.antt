use mathlib.Core.Bool.{not}
use Rattle.folder.proofs.ScanLaws.{Scanned}
use Rattle.covers.specs.Covers.{can_cover_in}
use Rattle.covers.proofs.lowest_cover.Given as goal

abbrev pub invariant-loop-c : goal.invariant-loop-c
invariant-loop-c l = Scanned (λ i. not (can_cover_in l.vars l.nb l.n i)) l.nodes l.c
