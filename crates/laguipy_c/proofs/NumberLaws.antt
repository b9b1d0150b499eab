-- Each answer's own number and places are those of any answer.
-- Assumes nothing.
use mathlib.Core.Path.{◌≡◌, refl}
use Rattle.std.specs.Prelude.{Err, Ok}
use Rattle.std.specs.Result.{result_unwrap_or}
use Rattle.folder.specs.Table.{Outcome, outcome_number, outcome_places}
use Rattle.graph.specs.Table.{GraphAnswer, answer_number, answer_places}
use Rattle.index.specs.Index.{IndexAnswer, index_number, index_places, index_listed}
use Rattle.assembly.specs.Build.{BuildAnswer, build_number, build_places, build_length}
use Rattle.laguipy_c.specs.Answers.{number_of, places_of}

pub of-outcome : (o : Outcome) → (number_of o ≡ outcome_number o) × (places_of o ≡ outcome_places o)
of-outcome (Ok t) = (refl, refl)
of-outcome (Err f) = (refl, refl)

pub of-graph : (a : GraphAnswer) → (number_of a ≡ answer_number a) × (places_of a ≡ answer_places a)
of-graph (Ok s) = (refl, refl)
of-graph (Err f) = (refl, refl)

pub of-index : (a : IndexAnswer) → (number_of a ≡ index_number a) × (places_of a ≡ index_places a) × (result_unwrap_or a 0 ≡ index_listed a)
of-index (Ok n) = (refl, refl, refl)
of-index (Err f) = (refl, refl, refl)

pub of-build : (a : BuildAnswer) → (number_of a ≡ build_number a) × (places_of a ≡ build_places a) × (result_unwrap_or a 0 ≡ build_length a)
of-build (Ok n) = (refl, refl, refl)
of-build (Err f) = (refl, refl, refl)
