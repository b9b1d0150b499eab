use Prim.Native.Nat.{◌+◌, ◌*◌, ◌≤◌}
use lib.ListN.{length}
use borrow.Author.Rules.{rules}
use Rattle.folder.proofs.ContentsLaws.{record-within}
use Rattle.index.specs.Twins.{state_at}
use Rattle.index.specs.Ready.{lowest_in}
use Rattle.index.proofs.answer_batch.Goals as goal

pub fill-requires-clause-by_index : goal.fill-requires-clause-by_index
fill-requires-clause-by_index c = λ k l.
    let w : c.args.vars * k + c.args.vars ≤ length c.args.batch.now = record-within c.args.vars (length c.args.batch.now) k l in
    search rules

pub returns : goal.returns
returns c =
    c.fill.ensures (λ k. lowest_in c.args.vars c.args.nb.now (state_at c.args.vars c.args.batch.now k)) (λ k t l p. search rules)
