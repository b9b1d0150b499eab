use borrow.Author.Rules.{rules}
use Rattle.rounds.specs.Rounds.{first_at, second_at}
use Rattle.rounds.proofs.run_rounds.Goals as goal

pub returns : goal.returns
unfolding first_at second_at
returns c = search rules
