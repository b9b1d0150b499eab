use Rattle.std.proofs.Common.{◌+◌}
use Rattle.put.specs.Put.{Changed}
use Rattle.begins.proofs.move_later.Given as goal

abbrev pub invariant-loop-begin : goal.invariant-loop-begin
invariant-loop-begin l = Changed 0 l.begin-index (λ _ begin. begin + l.bytes) l.initial.begins l.begins
