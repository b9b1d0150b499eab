use Rattle.solver.proofs.+meaning.Given as goal

abbrev pub decreases-meaning : goal.decreases-meaning
decreases-meaning g l = l.fuel
