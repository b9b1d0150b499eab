use native.Mathlib.Omega.{arith}
use Rattle.folder.specs.Contents.{field}
use Rattle.folder.proofs.ContentsLaws.{record-whole}
use Rattle.folder.proofs.field_in.Goals as goal

pub returns : goal.returns
unfolding field
returns c = c.u16_in.ensures

pub overflow_mul-size : goal.overflow_mul-size
overflow_mul-size c = omega (arith, record-whole c.args.size c.args.b.now c.args.i c.requires.0, c.well_formed)

pub overflow_mul-f : goal.overflow_mul-f
overflow_mul-f c = omega (arith, record-whole c.args.size c.args.b.now c.args.i c.requires.0, c.well_formed)

pub overflow_add-size : goal.overflow_add-size
overflow_add-size c = omega (arith, record-whole c.args.size c.args.b.now c.args.i c.requires.0, c.well_formed)

pub u16_in-requires : goal.u16_in-requires
u16_in-requires c = omega (arith, record-whole c.args.size c.args.b.now c.args.i c.requires.0, c.well_formed)
