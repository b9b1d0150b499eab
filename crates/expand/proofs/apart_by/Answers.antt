use mathlib.Core.Path.{◌≡◌}
use Rattle.std.proofs.Common.{rules}
use Rattle.folder.specs.Scan.{all, first_bad}
use Rattle.expand.specs.Tests.{result_at, label_at, apart_by}
use Rattle.expand.proofs.apart_by.Goals as goal

pub returns-then-all : goal.returns-then-all
unfolding apart_by
returns-then-all c =
    let a : c.all.result ≡ all (result_at c.args.vars c.args.nb.now c.args.bs.now c.args.state.now c.lead_of-lead.result.from c.lead_of-lead.result.to) c.args.vars = c.all.ensures _ (λ v t l h. search rules) in
    let f : c.first_bad.result ≡ first_bad (label_at c.args.vars c.args.nb.now c.args.bs.now c.args.known.now c.args.state.now c.lead_of-lead.result.from c.lead_of-lead.result.to) c.args.vars = c.first_bad.ensures _ (λ v t l h. search (rules, c.lead_of-lead.ensures.2)) in
    rw (← c.lead_of-lead.ensures.0, ← c.lead_of-lead.ensures.1, ← a, c.if-all.true) f

pub returns-else-all : goal.returns-else-all
unfolding apart_by
returns-else-all c =
    let a : c.all.result ≡ all (result_at c.args.vars c.args.nb.now c.args.bs.now c.args.state.now c.lead_of-lead.result.from c.lead_of-lead.result.to) c.args.vars = c.all.ensures _ (λ v t l h. search rules) in
    rw (← c.lead_of-lead.ensures.0, ← c.lead_of-lead.ensures.1, ← a, c.if-all.false)
