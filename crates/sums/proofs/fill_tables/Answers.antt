use native.Mathlib.Nat.{le_trans}
use native.Mathlib.Omega.{arith}
use mathlib.Core.Path.{ap}
use Rattle.model.specs.Layout.{branch_size}
use Rattle.model.proofs.Limits.{limits}
use Rattle.sums.proofs.TableLaws.{record-count, command-count, tables-of}
use Rattle.sums.proofs.fill_tables.Goals as goal

pub fill_weights-requires : goal.fill_weights-requires
fill_weights-requires c =
    let l = limits c.requires.valid.folder in
    omega (arith, c.variable_count.ensures.0, record-count _ (ap branch_size c.variable_count.ensures.0) c.body.ensures, l.variables, l.records)

pub fill_firsts-requires : goal.fill_firsts-requires
fill_firsts-requires c = omega (arith, command-count _ c.body-2.ensures, (limits c.requires.valid.folder).commands)

pub returns : goal.returns
returns c =
    let l = limits c.requires.valid.folder in
    tables-of c.args.m.now (ap branch_size c.variable_count.ensures.0) c.body.ensures c.body-2.ensures _ _ c.fill_weights.ensures.weights_after c.fill_weights.ensures.light c.fill_firsts.ensures (le_trans l.records c.requires.most_records_in_bounds.0) (le_trans l.commands c.requires.most_records_in_bounds.1)
