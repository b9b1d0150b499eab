use mathlib.Core.Path.{◌∙◌}
use native.Mathlib.Omega.{arith}
use Rattle.expressions.specs.Entries.{entries_of}
use Rattle.evaluate.proofs.Readable.{bounded, truth-lacking, past-lacking}
use Rattle.evaluate.proofs.truth_at.Goals as goal

pub read_truth-requires : goal.read_truth-requires
read_truth-requires c = record { bounded = bounded (entries_of c.args.x.now) c.args.t c.args.v.now c.requires.ready; e_le_field_limit = c.requires.e_le_field_limit }

pub returns-then-e-count_of : goal.returns-then-e-count_of
returns-then-e-count_of c =
    c.read_truth.ensures
    ∙ truth-lacking (entries_of c.args.x.now) c.args.vars c.args.masks.now c.args.t c.args.v.now c.requires.ready c.requires.masked c.args.e (omega (arith, c.if-e-count_of.true, c.count_of.ensures))

pub returns-else-e-count_of : goal.returns-else-e-count_of
returns-else-e-count_of c =
    past-lacking (entries_of c.args.x.now) c.args.vars c.args.t c.args.v.now c.args.e (omega (arith, c.if-e-count_of.false, c.count_of.ensures))
