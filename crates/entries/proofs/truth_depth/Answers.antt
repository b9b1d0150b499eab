use native.Mathlib.Omega.{arith}
use Rattle.entries.proofs.truth_depth.Goals as goal

pub returns-in-Compare : goal.returns-in-Compare
returns-in-Compare c = (rw c.in-Compare.is (omega arith), omega arith)

pub returns-in-Not : goal.returns-in-Not
returns-in-Not c = (rw c.in-Not.is (omega arith), omega arith)

pub returns-in-Joined : goal.returns-in-Joined
returns-in-Joined c = (rw c.in-Joined.is (omega arith), omega arith)
