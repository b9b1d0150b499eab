use Rattle.expressions.specs.Ranges.{bound_in}
use Rattle.expressions.specs.Combinations.{choices}
use Rattle.choices.proofs.Grown.{Grown}
use Rattle.choices.proofs.ways.Given as goal

abbrev pub invariant-loop-v : goal.invariant-loop-v
invariant-loop-v l = Grown (choices (bound_in l.y) l.t l.m) l.n l.p l.v
