use native.Mathlib.Omega.{arith}
use Rattle.entries.proofs.number_depth.Goals as goal

pub returns-in-Binary : goal.returns-in-Binary
returns-in-Binary c = (rw c.in-Binary.is (omega arith), omega arith)

pub returns-in-If : goal.returns-in-If
returns-in-If c = (rw c.in-If.is (omega arith), omega arith)
