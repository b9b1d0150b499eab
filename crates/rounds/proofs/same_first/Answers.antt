use borrow.Author.Rules.{rules}
use Rattle.rounds.specs.Rounds.{same_first}
use Rattle.rounds.proofs.same_first.Goals as goal

pub returns : goal.returns
unfolding same_first
returns c = search rules
