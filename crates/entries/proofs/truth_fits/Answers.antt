use Rattle.expressions.specs.Rules.{truth_fits}
use Rattle.entries.proofs.truth_fits.Goals as goal

pub number_part-requires : goal.number_part-requires
number_part-requires c = (rw c.in-Compare.is at c.requires.1).0

pub number_part-requires-in-Compare : goal.number_part-requires-in-Compare
number_part-requires-in-Compare c = (rw c.in-Compare.is at c.requires.1).1

pub truth_part-requires : goal.truth_part-requires
truth_part-requires c = (rw c.in-Not.is at c.requires.1)

pub truth_part-requires-in-Joined : goal.truth_part-requires-in-Joined
truth_part-requires-in-Joined c = (rw c.in-Joined.is at c.requires.1).0

pub truth_part-requires-in-Joined-2 : goal.truth_part-requires-in-Joined-2
truth_part-requires-in-Joined-2 c = (rw c.in-Joined.is at c.requires.1).1

pub returns-in-Compare : goal.returns-in-Compare
unfolding truth_fits
returns-in-Compare c = rw c.in-Compare.is (cc)

pub returns-in-Not : goal.returns-in-Not
unfolding truth_fits
returns-in-Not c = rw c.in-Not.is (cc)

pub returns-in-Joined : goal.returns-in-Joined
unfolding truth_fits
returns-in-Joined c = rw c.in-Joined.is (cc)

pub returns-in-Always : goal.returns-in-Always
unfolding truth_fits
returns-in-Always c = rw c.in-Always.is (cc)

pub returns-in-NoTruth : goal.returns-in-NoTruth
unfolding truth_fits
returns-in-NoTruth c = rw c.in-NoTruth.is (cc)
