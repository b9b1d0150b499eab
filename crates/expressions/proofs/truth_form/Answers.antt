use mathlib.Core.Path.{◌≡◌}
use mathlib.Core.Bool.{true, false}
use borrow.Author.Tests.{lt-ltb, le-ltb}
use lib.Dec.{ltb}
use Rattle.folder.specs.Contents.{count_of}
use Rattle.expressions.specs.Entries.{truth_form}
use Rattle.expressions.proofs.truth_form.Goals as goal

pub returns-then-e-count_of : goal.returns-then-e-count_of
unfolding truth_form
returns-then-e-count_of c =
    let h : ltb c.args.e (count_of 8 c.args.x.now) ≡ true = cc (lt-ltb _ _ c.if-e-count_of.true) in
    (rw h (cc), c.truth_form_of.ensures.1)

pub returns-else-e-count_of : goal.returns-else-e-count_of
unfolding truth_form
returns-else-e-count_of c =
    let h : ltb c.args.e (count_of 8 c.args.x.now) ≡ false = cc (le-ltb _ _ c.if-e-count_of.false) in
    (rw h, tt)
