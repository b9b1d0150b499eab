use Rattle.std.proofs.Common.{rules, ◌∙◌, ap, List, ℤ, pos, ◌++◌, drop, length, get_or}
use Rattle.folder.proofs.TabLaws.{tab-own}
use Rattle.step.proofs.load.Goals as goal

pub returns : goal.returns
returns c =
    let s = c.args.state.now in
    c.fill.ensures (λ k. get_or s k (pos 0)) (search rules) ∙ ap (λ (t : List ℤ). t ++ drop (length s) c.args.row.now) (tab-own (pos 0) s)
