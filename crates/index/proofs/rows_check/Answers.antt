use native.Mathlib.Omega.{arith}
use borrow.Author.Rules.{rules}
use Prim.Native.Nat.{◌<◌}
use Rattle.index.proofs.CallLaws.{some-variable}
use Rattle.index.proofs.rows_check.Goals as goal

pub check_each-requires : goal.check_each-requires
check_each-requires c = λ p l.
    let some : 0 < c.variable_count-vars.result = omega (arith, c.variable_count-vars.ensures.0, some-variable c.requires.model) in
    search rules
