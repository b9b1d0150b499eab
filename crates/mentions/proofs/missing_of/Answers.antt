use borrow.Author.Rules.{rules}
use Rattle.mentions.proofs.Masks.{first-free, none_free}
use Rattle.mentions.proofs.missing_of.Goals as goal

pub returns-then-v-n : goal.returns-then-v-n
returns-then-v-n c = first-free c.args.n c.args.m c.args.t (search rules) c.if-v-n.true

pub returns-else-v-n : goal.returns-else-v-n
returns-else-v-n c = none_free c.args.n c.args.m c.args.t {v = c.first_bad-v.result} (search rules) c.if-v-n.false
