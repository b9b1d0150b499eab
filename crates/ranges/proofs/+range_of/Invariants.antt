use Rattle.ranges.proofs.+range_of.Given as goal

abbrev pub decreases-range_of : goal.decreases-range_of
decreases-range_of l = l.e
