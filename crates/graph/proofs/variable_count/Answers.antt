use native.Mathlib.Omega.{arith}
use Rattle.model.proofs.Limits.{limits}
use Rattle.graph.proofs.variable_count.Goals as goal

pub returns : goal.returns
returns c =
    (c.variable_count.ensures.0, omega (arith, c.variable_count.ensures.0, (limits c.requires.folder).variables))
