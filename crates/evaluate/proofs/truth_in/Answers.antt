use mathlib.Core.Path.{◌∙◌, ap}
use Rattle.expressions.specs.Limits.{all_tracked}
use Rattle.expressions.specs.Entries.{entries_of}
use Rattle.expressions.specs.Reading.{is_true}
use Rattle.evaluate.proofs.Level.{truth-part}
use Rattle.evaluate.proofs.Readable.{ready, bounded, truth-enough, truth-is}
use Rattle.evaluate.proofs.truth_in.Goals as goal

pub read_truth-requires : goal.read_truth-requires
read_truth-requires c = let x = entries_of c.args.x.now in record { bounded = bounded x all_tracked c.args.s.now (ready x c.args.s.now c.requires.grounded); e_le_field_limit = c.requires.e_le_field_limit }

pub returns : goal.returns
returns c =
    let x = entries_of c.args.x.now in
    let read = truth-part c.args.x.now all_tracked c.args.s.now _ _ _ c.ok.ensures.value c.read_truth.ensures in
    c.is_true.ensures
    ∙ ap is_true (read ∙ truth-enough x all_tracked c.args.s.now (ready x c.args.s.now c.requires.grounded) c.args.e)
    ∙ truth-is x c.args.s.now c.requires.grounded c.args.e c.requires.truth
