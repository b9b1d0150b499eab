-- Document 02, 2.5: the move that the code found.
-- Assumes nothing.
use Rattle.building.specs.Moves.{Move as Made, track, adopt, drop, cover_by, reach, expand}
use Rattle.nodes.specs.declared.Move.{Move}
use Rattle.nodes.specs.declared.Move.TheVariants.{Track, Adopt, Drop, Cover, Reach, Expand}

abbrev pub told : Move → Made
told (Track n v) = track n v
told (Adopt n) = adopt n
told (Drop n) = drop n
told (Cover n c) = cover_by n c
told (Reach n) = reach n
told (Expand n) = expand n
