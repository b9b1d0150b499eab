use mathlib.Core.Path.{◌≡◌, ap, ◌∙◌}
use borrow.Author.Rules.{rules}
use Rattle.std.specs.Prelude.{None, option_map}
use Rattle.nodes.specs.Told.{told}
use Rattle.repairs.proofs.Linked.{node-here}
use Rattle.repairs.proofs.Answering.{target-repair, tracks-none, tracks-some}
use Rattle.repairs.proofs.repair_target.Goals as goal

pub target_wants-requires : goal.target_wants-requires
target_wants-requires c = record { node_here = node-here c.requires.standing.held c.requires.n_lt_nodes; masks_of = c.requires.standing.masked }

pub returns-in_err-v : goal.returns-in_err-v
returns-in_err-v c =
    let q : c.from_residual.result ≡ None = search rules in
    ap (option_map told) q ∙ target-repair _ _ _ _ c.requires.n_lt_nodes c.in_err-v.ensures (tracks-none _)

pub returns : goal.returns
returns c = target-repair _ _ _ _ c.requires.n_lt_nodes c.in_ok-v.ensures (tracks-some _ _)
