use mathlib.Core.Path.{◌∙◌, ap}
use Rattle.rounds.specs.Rounds.{cover_row}
use Rattle.rounds.proofs.CoverLaws.{next_both}
use Rattle.rounds.proofs.next_round.Goals as goal

pub returns : goal.returns
returns c =
    c.fill_covers.ensures.row ∙ ap (cover_row c.args.s.now.model c.args.s.now.graph) c.fill_next.ensures ∙ next_both c.fill_covers.ensures.valid c.args.src.now c.args.dst.now
