use Rattle.mdp.proofs.SumLoop.{Summed}
use Rattle.folder.specs.Fields.{field_limit}
use Rattle.folder.proofs.FillLaws.{Filled}
use Rattle.sums.specs.Edges.{branches_in}
use Rattle.sums.specs.Tables.{first_in}
use Rattle.sums.proofs.fill_firsts.Given as goal

abbrev pub invariant-loop-c : goal.invariant-loop-c
invariant-loop-c l = Filled (first_in l.cs) l.commands l.initial.firsts l.firsts l.c × Summed field_limit (branches_in l.cs) l.commands l.c l.next
