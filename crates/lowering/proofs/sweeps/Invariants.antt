use Prim.Native.Nat.{◌≤◌}
use mathlib.Core.Path.{◌≡◌}
use lib.ListN.{length}
use Rattle.lowering.specs.Sweeps.{nodes_of}
use Rattle.lowering.proofs.SettledLaws.{round_row}
use Rattle.lowering.proofs.sweeps.Given as goal

abbrev pub invariant-loop : goal.invariant-loop
invariant-loop l = (l.row ≡ round_row l.s.model l.s.graph l.counter l.initial.row) × (nodes_of l.s.model l.s.graph ≤ length l.initial.row)
