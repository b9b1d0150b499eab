use mathlib.Core.Path.{◌∙◌, ap}
use Rattle.rounds.specs.Rounds.{cover_row}
use Rattle.rounds.proofs.CoverLaws.{start-both}
use Rattle.rounds.proofs.start_round.Goals as goal

pub returns : goal.returns
returns c =
    c.fill_covers.ensures.row ∙ ap (cover_row c.args.s.now.model c.args.s.now.graph) c.fill_start.ensures ∙ start-both c.fill_covers.ensures.valid c.args.dst.now
