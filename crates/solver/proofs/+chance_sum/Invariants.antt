-- A sum hands on the steps that it is given, and a chance one less.
use Rattle.std.proofs.Common.{◌+◌, ◌*◌}
use Rattle.solver.proofs.+chance_sum.Given as goal

abbrev pub decreases-chance : goal.decreases-chance
decreases-chance l = 2 * l.k

abbrev pub decreases-sum : goal.decreases-sum
decreases-sum l = 2 * l.k + 1
