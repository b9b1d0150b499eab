use Rattle.expressions.specs.Rules.{number_fits}
use Rattle.entries.proofs.number_fits.Goals as goal

pub number_part-requires : goal.number_part-requires
number_part-requires c = (rw c.in-Binary.is at c.requires.1).0

pub number_part-requires-in-Binary : goal.number_part-requires-in-Binary
number_part-requires-in-Binary c = (rw c.in-Binary.is at c.requires.1).1

pub truth_part-requires : goal.truth_part-requires
truth_part-requires c = (rw c.in-If.is at c.requires.1).0

pub number_part-requires-in-If : goal.number_part-requires-in-If
number_part-requires-in-If c = (rw c.in-If.is at c.requires.1).1

pub number_part-requires-in-If-2 : goal.number_part-requires-in-If-2
number_part-requires-in-If-2 c = (rw c.in-If.is at c.requires.1).2

pub returns-in-Constant : goal.returns-in-Constant
unfolding number_fits
returns-in-Constant c = rw c.in-Constant.is (cc)

pub returns-in-Variable : goal.returns-in-Variable
unfolding number_fits
returns-in-Variable c = rw c.in-Variable.is (cc)

pub returns-in-Binary : goal.returns-in-Binary
unfolding number_fits
returns-in-Binary c = rw c.in-Binary.is (cc)

pub returns-in-If : goal.returns-in-If
unfolding number_fits
returns-in-If c = rw c.in-If.is (cc)

pub returns-in-NoNumber : goal.returns-in-NoNumber
unfolding number_fits
returns-in-NoNumber c = rw c.in-NoNumber.is (cc)
