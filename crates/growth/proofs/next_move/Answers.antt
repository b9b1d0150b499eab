use mathlib.Core.Path.{refl, ap}
use Rattle.std.specs.Prelude.{option_map}
use Rattle.nodes.specs.Told.{told}
use Rattle.growth.proofs.NextLaws.{found-by, settle-asked, grow-asked, repaired, grown-next}
use Rattle.growth.proofs.next_move.Goals as goal

pub first_repair-requires : goal.first_repair-requires
first_repair-requires c = record { standing = c.requires.standing; parent_right = c.requires.parent_right; settled = c.requires.settled; mark_right = c.requires.mark_right; low_le_high = (c.requires.low_le_high.0, c.requires.low_le_high.1, c.requires.low_le_high.3) }

pub returns-in-Some : goal.returns-in-Some
returns-in-Some c =
    let v = repaired (found-by c.args.w c.in-Some.ensures.result_value c.first_repair.ensures.reread c.in-Some.ensures.mark_right_2) refl c.requires.standing.held.model c.requires.hint_right _ in
    record { result_value = v.0; looked = v.1.0; to_make = v.1.1 }

pub settle_hints-requires : goal.settle_hints-requires
settle_hints-requires c =
    let v = settle-asked c.first_repair.ensures.reread c.requires.standing.held c.requires.hint_right in
    record { held = v.0; hint_right = v.1 }

pub growth_of-requires : goal.growth_of-requires
growth_of-requires c =
    let v = grow-asked c.first_repair.ensures.reread c.settle_hints.ensures c.requires.standing.held c.requires.lent c.requires.next_right c.requires.low_le_high.2 c.requires.low_le_high.4 in
    record { held = v.0; lent = v.1.0; hint_right = v.1.1.0; next_right = v.1.1.1.0; next_le_nodes = v.1.1.1.1 }

pub returns : goal.returns
returns c =
    let v = grown-next (found-by c.args.w c.first_repair.ensures.result_value c.first_repair.ensures.reread c.first_repair.ensures.mark_right_2) (ap (option_map told) c.in_default.is) c.settle_hints.ensures _ c.growth_of.ensures c.requires.next_right in
    record { result_value = v.0; looked = v.1.0; to_make = v.1.1 }
