use Rattle.std.proofs.Common.{◌+◌, ◌*◌, arith}
use Rattle.folder.specs.Fields.{u16}
use Rattle.folder.specs.Contents.{field}
use Rattle.sums.proofs.fill_weights.Goals as goal

pub returns-clause-light : goal.returns-clause-light
unfolding field u16
returns-clause-light c = record { fits = λ r l. omega (arith, (c.type_inv.bs (c.args.size * r + 2 * 0)).fits, (c.type_inv.bs (c.args.size * r + 2 * 0 + 1)).fits) }
