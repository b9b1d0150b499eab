use mathlib.Core.Path.{◌≡◌}
use lib.ListN.{drop}
use Rattle.hash.specs.Hash.{hash_of, fnv_from, bytes_of}
use Rattle.hash.proofs.hash.Given as goal

abbrev pub invariant-loop-x : goal.invariant-loop-x
invariant-loop-x l = fnv_from l.h (bytes_of (drop l.x-index l.s)) ≡ hash_of l.s
