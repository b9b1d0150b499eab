use mathlib.Core.Path.{refl, ◌∙◌}
use borrow.Author.Tests.{eq-eqb, ne_eqb}
use Rattle.sums.specs.Tables.{figure_by}
use Rattle.lowering.proofs.value_by.Goals as goal

pub returns-then-kind-eq-EXPANDED : goal.returns-then-kind-eq-EXPANDED
unfolding figure_by
returns-then-kind-eq-EXPANDED c =
    let e = eq-eqb _ _ c.if-kind-eq-EXPANDED.true in
    c.figure_by.ensures ∙ rw e refl

pub returns-else-kind-eq-EXPANDED : goal.returns-else-kind-eq-EXPANDED
returns-else-kind-eq-EXPANDED c = rw (ne_eqb _ _ c.if-kind-eq-EXPANDED.false) refl
