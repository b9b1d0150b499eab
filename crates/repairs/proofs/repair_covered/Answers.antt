use mathlib.Core.Path.{◌≡◌}
use native.Mathlib.Omega.{arith}
use Rattle.std.specs.Prelude.{None, Some}
use Rattle.covers.specs.declared.Fault.TheVariants.{Apart, Untracked}
use Rattle.repairs.proofs.Answering.{covered-repair}
use Rattle.repairs.proofs.repair_covered.Goals as goal

pub fault_of-requires : goal.fault_of-requires
fault_of-requires c = (c.variable_count.ensures.1, omega (arith, c.requires.n_lt_nodes.0, c.requires.standing.held.kept.few))

pub returns-in-Some-Apart : goal.returns-in-Some-Apart
returns-in-Some-Apart c =
    let q : c.fault_of.result ≡ Some Apart = cc in
    covered-repair c.requires.standing.held c.requires.n_lt_nodes.0 c.requires.n_lt_nodes.1 c.variable_count.ensures.0 c.fault_of.ensures q

pub returns-in-Some-Untracked : goal.returns-in-Some-Untracked
returns-in-Some-Untracked c =
    let q : c.fault_of.result ≡ Some Untracked = cc in
    covered-repair c.requires.standing.held c.requires.n_lt_nodes.0 c.requires.n_lt_nodes.1 c.variable_count.ensures.0 c.fault_of.ensures q

pub returns-in-None : goal.returns-in-None
returns-in-None c =
    let q : c.fault_of.result ≡ None = cc in
    covered-repair c.requires.standing.held c.requires.n_lt_nodes.0 c.requires.n_lt_nodes.1 c.variable_count.ensures.0 c.fault_of.ensures q
