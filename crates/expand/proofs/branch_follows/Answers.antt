use mathlib.Core.Path.{◌≡◌}
use Rattle.std.proofs.Common.{rules}
use Rattle.folder.specs.Scan.{all}
use Rattle.expand.specs.Tests.{variable_follows, branch_follows}
use Rattle.expand.proofs.branch_follows.Goals as goal

pub returns : goal.returns
unfolding branch_follows
returns c =
    let a : c.all.result ≡ all (variable_follows c.args.vars c.args.nb.now c.args.bs.now c.args.known.now c.args.state.now c.lead_of-lead.result.from c.lead_of-lead.result.to) c.args.vars = c.all.ensures _ (λ v t l h. search (rules, c.lead_of-lead.ensures.2)) in
    rw (← c.lead_of-lead.ensures.0, ← c.lead_of-lead.ensures.1) a
