use mathlib.Core.Path.{ap, ◌∙◌}
use native.Mathlib.Omega.{arith}
use Rattle.folder.proofs.FillLaws.{fill_start, fill-next}
use Rattle.folder.proofs.Signed.{back}
use Rattle.expressions.specs.Entries.{entries_of}
use Rattle.expressions.specs.Reading.{look_in}
use Rattle.evaluate.specs.Settled.{flag_of, content_of}
use Rattle.evaluate.proofs.Rows.{filled}
use Rattle.evaluate.proofs.settle.Goals as goal

pub settle_entry-r-requires : goal.settle_entry-r-requires
settle_entry-r-requires c = record { ready = c.requires.ready; settled = filled (entries_of c.args.x.now) (look_in c.args.t c.args.v.now) c.loop-e.e c.args.known.now c.args.values.now c.loop-e.invariant.0.is c.loop-e.invariant.1.is; e_le_field_limit = omega arith }

pub loop-e-preserved : goal.loop-e-preserved
loop-e-preserved c = (
  fill-next c.loop-e.invariant.0 c.loop-e-test.true (omega arith) (c.flag_of.ensures ∙ ap flag_of c.settle_entry-r.ensures),
  fill-next c.loop-e.invariant.1 c.loop-e-test.true (omega arith) (back c.content_of.type_inv ∙ c.content_of.ensures ∙ ap content_of c.settle_entry-r.ensures),
)

pub loop-e-init : goal.loop-e-init
loop-e-init c = (fill_start _ _ _, fill_start _ _ _)
